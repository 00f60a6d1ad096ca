use Rattle.std.proofs.Common.{◌≡◌, length}
use Rattle.hc_template.specs.Fronts.{before_inner, ends_at}
use Rattle.hc_template.specs.Reading.{inner_behind}
use Rattle.hc_template.proofs.inner.read_inner.Given as goal

-- what was read, before what the rest is read as, is the whole
abbrev pub invariant-loop-sign : goal.invariant-loop-sign
invariant-loop-sign l =
    inner_behind (ends_at l.ends) l.fn.signs 0 l.text
    ≡ before_inner l.pieces (inner_behind (ends_at l.ends) l.left 0 l.rest)

abbrev pub decreases-loop-sign : goal.decreases-loop-sign
decreases-loop-sign l = length l.rest
