use Rattle.std.proofs.Common.{◌≡◌, length}
use Rattle.hc_template.specs.Fronts.{before}
use Rattle.hc_template.specs.Reading.{template}
use Rattle.hc_template.proofs.reading.read_template.Given as goal

-- what was read, before what the rest is read as, is the whole
abbrev pub invariant-loop-sign : goal.invariant-loop-sign
invariant-loop-sign l = template l.fn.signs l.text ≡ before l.pieces (template l.left l.rest)

abbrev pub decreases-loop-sign : goal.decreases-loop-sign
decreases-loop-sign l = length l.rest
