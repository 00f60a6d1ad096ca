use Rattle.hc_regset.proofs.Common.{subst, Accepts, product_of, form_of, keep_of}
use Rattle.hc_dfa.specs.declared.products.Keep.{Keep}
use Rattle.hc_regset.proofs.Setting.{so_far_at, so_far_fault, so_far_put}
use Rattle.hc_regset.proofs.compile.+compile.Goals as goal

pub members-returns-in-Err : goal.members-returns-in-Err
members-returns-in-Err t c =
    let h = so_far_at _ _ _ _ c.form-item.result _ c.loop-form-test.true c.form-item.is c.loop-form.invariant in
    so_far_fault (keep_of c.args.joining) c.loop-form.set
    (form_of c.form-item.result) _ _ c.in-Err.fault h c.in-Err.ensures

pub members-loop-form-preserved : goal.members-loop-form-preserved
members-loop-form-preserved t c =
    let h = so_far_at _ _ _ _ c.form-item.result _ c.loop-form-test.true c.form-item.is c.loop-form.invariant in
    let set = c.in_ok-set-in-Ok.set in
    let keeps = λ (keep : Keep). Accepts set (product_of keep c.loop-form.set c.in-Ok.member) in
    let made = subst keeps c.keep.ensures c.in_ok-set-in-Ok.ensures in
    so_far_put (keep_of c.args.joining) c.loop-form.set c.in-Ok.member set _ _ _ h c.in-Ok.ensures made
