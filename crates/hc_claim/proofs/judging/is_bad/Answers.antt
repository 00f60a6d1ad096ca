use Rattle.hc_claim.proofs.Common.{◌∙◌, sym}
use Rattle.std.proofs.lemmas.Result.{IfOk-weaker}
use Rattle.hc_abs_view.specs.Seen.{IsAnswer}
use Rattle.hc_claim.proofs.Judged.{judged}
use Rattle.hc_claim.specs.Judging.{MayBreakIn}
use Rattle.hc_claim.proofs.judging.is_bad.Goals as goal

pub returns : goal.returns
returns c =
    IfOk-weaker c.may_break.result (IsAnswer (MayBreakIn c.args.claim.now c.args.leaf.now)) _
    (λ bad. judged c.args.claim.now c.args.leaf.now bad (sym c.ends_out.ensures ∙ c.if-ends_out.false))
    c.may_break.ensures
