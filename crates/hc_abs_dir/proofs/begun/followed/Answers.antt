use Rattle.std.specs.Rc.{rc_value}
use Rattle.hc_abs_dir.proofs.Common.{◌∙◌, Some, false, sym, ap, subst, true, LentSettings}
use Rattle.hc_abs_pass.specs.Passing.{follow_plan}
use Rattle.hc_abs_dir.specs.Behind.{AreBy, refused_plan}
use Rattle.hc_abs_dir.proofs.Beginning.{follows}
use Rattle.hc_abs_dir.proofs.begun.followed.Goals as goal

pub returns-then-not-own : goal.returns-then-not-own
returns-then-not-own c =
    let lent = rc_value c.args.settings.now in
    let decisions = c.args.decisions.now in
    let dir = c.args.dir.now in
    let found = c.in_ok-found.found.items in
    subst (λ given. AreBy c.args.ground lent (λ own settings. follow_plan own settings dir decisions) given found)
    (sym c.in-Some.is)
    (follows c.args.ground lent decisions dir c.in-Some.tied found false
    (ap (λ (own : LentSettings). own.force.follow) (sym c.as_ref-own.ensures) ∙ c.if-not-own.true)
    (subst (λ own. AreBy c.args.ground own (refused_plan decisions) (Some c.in-Some.tied) found) c.as_ref-own.ensures
    (c.in_ok-found.ensures c.args.ground)))

pub returns : goal.returns
returns c =
    let lent = rc_value c.args.settings.now in
    let decisions = c.args.decisions.now in
    let dir = c.args.dir.now in
    let found = c.in_ok-found-2.found.items in
    subst (λ given. AreBy c.args.ground lent (λ own settings. follow_plan own settings dir decisions) given found)
    (sym c.in-Some.is)
    (follows c.args.ground lent decisions dir c.in-Some.tied found true
    (ap (λ (own : LentSettings). own.force.follow) (sym c.as_ref-own.ensures) ∙ c.if-not-own.false)
    c.in_ok-found-2.ensures)
