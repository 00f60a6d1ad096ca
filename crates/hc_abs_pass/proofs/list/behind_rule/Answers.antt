use Rattle.std.proofs.lemmas.Result.{IfOk-weaker}
use Rattle.hc_abs_pass.proofs.Listing.{placed_answered, placed_on}
use Rattle.hc_abs_pass.proofs.list.behind_rule.Goals as goal

pub returns-in-GoesOn : goal.returns-in-GoesOn
returns-in-GoesOn c =
    IfOk-weaker c.going_on.result _ _ (λ placed.
    placed_on c.args.rule.now c.args.behind.now c.args.before.now c.after-left.result c.args.branch c.after-left.ensures
    placed c.in-GoesOn.is) c.going_on.ensures

pub returns-in_default : goal.returns-in_default
returns-in_default c =
    placed_answered c.args.rule.now c.args.behind.now c.args.before.now c.after-left.result c.args.branch
    c.after-left.ensures c.in_default.not-GoesOn
