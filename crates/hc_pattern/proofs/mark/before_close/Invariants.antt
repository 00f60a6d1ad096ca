use Rattle.hc_pattern.proofs.Common.{◌≡◌, ◌++◌, take, drop, option_map, before_close}
use Rattle.hc_pattern.proofs.mark.before_close.Given as goal

abbrev pub invariant-loop-i : goal.invariant-loop-i
invariant-loop-i l = option_map (λ more. take l.i l.marks ++ more) (before_close (drop l.i l.marks))
    ≡ before_close l.marks
