use Rattle.std.specs.Rc.{rc_value}
use Rattle.hc_abs_dir.proofs.Common.{ap, false, Decision, List}
use Rattle.hc_abs_pass.specs.declared.list.SoFar.{SoFar}
use Rattle.hc_abs_dir.proofs.Beginning.{begun_fits}
use Rattle.hc_abs_dir.proofs.begun.begun.Goals as goal

abbrev so_far : List Decision → SoFar
so_far decisions = record { decisions = decisions; substituted = false; replaced = false }

pub returns : goal.returns
returns c =
    begun_fits c.args.ground (rc_value c.args.settings.now) c.args.decisions.now c.args.dir.now c.args.tied
    c.in_ok-found.found.items c.in_ok-named.named (so_far c.in_ok-decisions.decisions) c.in_ok-named.ensures
    (ap so_far c.in_ok-decisions.ensures) c.in_ok-found.ensures
