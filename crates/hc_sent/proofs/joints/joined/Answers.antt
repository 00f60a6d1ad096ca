use Rattle.std.proofs.Common.{◌++◌, ◌∷◌, [], sym, subst, take}
use Rattle.std.proofs.lemmas.List.{take_all}
use Rattle.hc_pat_lang.specs.Sets.{AcceptsOnly}
use Rattle.hc_sent.proofs.Chaining.{one_taken}
use Rattle.hc_sent.proofs.Joining.{AreBare, all_joined, zip_push}
use Rattle.hc_sent.specs.Joints.{IsBare}
use Rattle.hc_sent.proofs.joints.joined.Goals as goal

pub loop-part-preserved : goal.loop-part-preserved
loop-part-preserved c =
    let parts = c.args.parts.now in
    let at = c.loop-part.part-index in
    subst (λ front. AreBare front c.push.new.self.items)
    (sym (one_taken parts at c.part-item.result c.loop-part-test.true c.part-item.is))
    (subst (AreBare (take at parts ++ c.part-item.result ∷ [])) (sym c.in_ok-push.ensures.items)
    (zip_push (λ part set. AcceptsOnly (IsBare part) set) (take at parts) c.loop-part.sets.items c.part-item.result
    c.in_ok-bare.field-0 c.loop-part.invariant c.in_ok-bare.ensures))

pub returns : goal.returns
returns c =
    let parts = c.args.parts.now in
    all_joined parts c.loop-part.sets.items c.in_ok-made.made
    (subst (λ front. AreBare front c.loop-part.sets.items)
    (take_all c.loop-part.part-index parts c.loop-part-test.false) c.loop-part.invariant)
    (rw c.deref.ensures.value at c.in_ok-made.ensures)
