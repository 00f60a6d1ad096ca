use Rattle.hc_pattern.proofs.Common.{◌∙◌, ap, sym, has_byte}
use Rattle.hc_pattern.proofs.ClassLemmas.{all_bytes, byte_added, byte_left}
use Rattle.hc_pattern.proofs.set.set_where.Goals as goal
use Rattle.hc_pattern.proofs.set.set_where.Goals.{then-test, else-test}

pub loop-number-preserved : goal.loop-number-preserved
loop-number-preserved g c wanted is b =
    let now = is c.loop-number.number c.test.result c.loop-number-test.true c.test.ensures in
    let before = c.loop-number.invariant wanted is b in
    elim c.if-test.branch [
      | then-test w ↦ ap (λ set. has_byte set b) w.set-is ∙ w.with-set.ensures b
          ∙ byte_added wanted _ c.loop-number.number b before (sym now ∙ w.if-test.true)
      | else-test w ↦ ap (λ set. has_byte set b) w.set-is ∙ byte_left wanted _ c.loop-number.number b before
          (sym now ∙ w.if-test.false)
    ]

pub returns : goal.returns
returns g c wanted is b within = c.loop-number.invariant wanted is b
    ∙ all_bytes (wanted b) c.loop-number.number b within c.loop-number-test.false
