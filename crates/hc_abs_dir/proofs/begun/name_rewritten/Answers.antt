use Rattle.hc_abs_dir.proofs.Common.{refl}
use Rattle.hc_abs_dir.proofs.Beginning.{begun_rests, ties_from}
use Rattle.hc_abs_dir.proofs.begun.name_rewritten.Goals as goal

pub returns : goal.returns
returns c =
    begun_rests c.args.tied (record { cell = c.in_ok-cell.cell; ties = ties_from c.args.tied.ties })
    c.in_ok-names.names c.in_ok-names.ensures c.in_ok-cell.ensures refl
