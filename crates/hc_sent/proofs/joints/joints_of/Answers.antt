use Rattle.std.proofs.Common.{◌+◌, ◌++◌, ◌∷◌, [], append-nil, subst, sym}
use Rattle.std.proofs.lemmas.List.{take_rest}
use Rattle.hc_sent.proofs.Chaining.{all_gone, further}
use Rattle.hc_sent.specs.Joints.{AreJoints}
use Rattle.hc_sent.proofs.joints.joints_of.Goals as goal

pub loop-place-preserved : goal.loop-place-preserved
loop-place-preserved c more rest =
    let parts = c.args.parts.now in
    let at = c.loop-place.place in
    let joint = rw (take_rest parts (at + 1)) at c.in_ok-joint_of.ensures in
    subst (λ made. AreJoints [] parts (made ++ more)) (sym c.in_ok-push.ensures.items)
    (further AreJoints parts at c.index-parts-place.result c.loop-place.made.items (c.in_ok-joint_of.field-0 ∷ [])
    c.loop-place-test.true c.index-parts-place.is (λ more rest. (joint, rest)) c.loop-place.invariant more rest)

pub returns : goal.returns
returns c =
    let parts = c.args.parts.now in
    subst (AreJoints [] parts) (append-nil c.loop-place.made.items)
    (all_gone AreJoints parts c.loop-place.place c.loop-place.made.items [] c.loop-place-test.false tt
    c.loop-place.invariant)
