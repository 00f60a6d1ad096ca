use Rattle.hc_dfa.proofs.Common.{◌∙◌, ap, Vec, Global, Step}
use Rattle.hc_dfa.proofs.Closures.{changes_more}
use Rattle.hc_dfa.proofs.subsets.changes_of.Goals as goal

pub loop-steps-preserved : goal.loop-steps-preserved
loop-steps-preserved c =
    rw (← c.deref-steps-items.ensures.value)
    (changes_more c.deref-steps-items.result.now c.loop-steps.steps-index c.steps-item.result _ _ c.loop-steps-test.true
    (rw c.deref-steps-items.ensures.value c.loop-steps.invariant)
    (rw (c.deref.ensures.value ∙ ap (λ (row : Vec Step Global). row.items) c.steps-item.is) at c.mark_all.ensures))
