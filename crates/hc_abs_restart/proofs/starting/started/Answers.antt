use Rattle.hc_abs_restart.proofs.Common.{refl}
use Rattle.hc_abs_restart.proofs.Renaming.{renamed_fits, ties_from}
use Rattle.hc_abs_restart.proofs.starting.started.Goals as goal

pub returns : goal.returns
returns c =
    renamed_fits c.args.tied.now c.args.names.now
    (record { cell = c.in_ok-cell.cell; ties = ties_from c.args.tied.now.ties.query_first }) c.in_ok-cell.ensures refl
