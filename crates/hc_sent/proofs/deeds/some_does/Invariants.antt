use Rattle.hc_sent.specs.Deeds.{Does}
use Rattle.hc_sent.proofs.Chaining.{IsLeftTo}
use Rattle.hc_sent.proofs.deeds.some_does.Given as goal

abbrev pub invariant-loop-joint : goal.invariant-loop-joint
invariant-loop-joint l = IsLeftTo (Does l.way l.deed) l.joints l.joint-index
