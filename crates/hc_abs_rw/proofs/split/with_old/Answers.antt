use Rattle.std.proofs.Common.{◌∙◌, subst, None}
use Rattle.std.proofs.lemmas.Result.{IfOk-weaker}
use Rattle.hc_plan.specs.Ways.{IsHandSet}
use Rattle.hc_abs_rw.proofs.split.with_old.Goals as goal

pub returns : goal.returns
returns c =
    IfOk-weaker c.appended_queries.result _ _ (λ made both. record {
      old = c.in_ok-old.old;
      is_old = subst (λ elements. IsHandSet c.args.cell.now elements 0 None c.in_ok-old.old)
          (c.deref.ensures.value ∙ c.in_ok-query.ensures) c.in_ok-old.ensures;
      both = both;
    }) c.appended_queries.ensures
