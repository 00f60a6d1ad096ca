use Rattle.hc_abs_dir.proofs.Common.{sym, subst, false}
use Rattle.hc_abs_pass.specs.Passing.{left_plan}
use Rattle.hc_abs_dir.specs.Behind.{AreBy}
use Rattle.hc_abs_dir.proofs.ruled.unruled.Goals as goal

pub returns : goal.returns
returns c =
    subst (λ given. AreBy c.args.ground c.args.settings.now
    (λ own settings. left_plan own settings c.args.decisions.now false) given c.in_ok-found.found.items)
    (sym c.in-Some.is)
    (λ levels merges settings fit state ends. c.in_ok-found.ensures levels merges settings state fit ends)
