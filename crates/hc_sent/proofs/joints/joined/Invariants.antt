use Rattle.std.proofs.Common.{take}
use Rattle.hc_sent.proofs.Joining.{AreBare}
use Rattle.hc_sent.proofs.joints.joined.Given as goal

abbrev pub invariant-loop-part : goal.invariant-loop-part
invariant-loop-part l = AreBare (take l.part-index l.parts) l.sets.items
