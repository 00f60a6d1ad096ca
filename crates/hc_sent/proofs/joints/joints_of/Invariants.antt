use Rattle.hc_sent.specs.Joints.{AreJoints}
use Rattle.hc_sent.proofs.Chaining.{GoesOn}
use Rattle.hc_sent.proofs.joints.joints_of.Given as goal

abbrev pub invariant-loop-place : goal.invariant-loop-place
invariant-loop-place l = GoesOn AreJoints l.parts l.place l.made.items
