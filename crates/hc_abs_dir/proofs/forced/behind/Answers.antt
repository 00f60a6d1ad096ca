use Rattle.std.specs.Rc.{rc_value}
use Rattle.hc_abs_dir.proofs.Common.{Some, sym, subst}
use Rattle.hc_abs_dir.specs.Behind.{AreBy, answered_plan, refused_plan}
use Rattle.hc_abs_dir.proofs.forced.behind.Goals as goal

pub returns-then-is : goal.returns-then-is
returns-then-is c =
    let decisions = c.args.decisions.now in
    subst (λ is. AreBy c.args.ground (rc_value c.args.settings.now)
    (λ own settings. answered_plan decisions own settings is) (Some c.args.answer.tied) c.in_ok-found.found.items)
    (sym c.if-is.true) c.in_ok-found.ensures

pub returns : goal.returns
returns c =
    let decisions = c.args.decisions.now in
    let found = c.in_ok-found-2.found.items in
    subst (λ is. AreBy c.args.ground (rc_value c.args.settings.now)
    (λ own settings. answered_plan decisions own settings is) (Some c.args.answer.tied) found)
    (sym c.if-is.false)
    (subst (λ own. AreBy c.args.ground own (refused_plan decisions) (Some c.args.answer.tied) found) c.as_ref.ensures
    (c.in_ok-found-2.ensures c.args.ground))
