use Rattle.std.specs.Rc.{rc_value}
use Rattle.hc_abs_dir.proofs.Common.{subst, LentSettings}
use Rattle.hc_abs_authz.specs.Admitting.{AreAdmitted}
use Rattle.hc_abs_dir.proofs.Behind.{forced_fits}
use Rattle.hc_abs_dir.proofs.forced.forced_branches.Goals as goal

pub returns : goal.returns
returns c =
    let ground = c.args.ground in
    forced_fits ground (rc_value c.args.settings.now) c.args.decisions.now c.args.tied c.in_ok-answers.answers.items
    c.in_ok-found.found.items
    (subst (λ (own : LentSettings). AreAdmitted ground.tests.now ground.net.now own.force.require c.args.tied
    c.in_ok-answers.answers.items) c.as_ref.ensures
    (subst (λ caller. AreAdmitted caller ground.net.now c.as_ref.result.now.force.require c.args.tied
    c.in_ok-answers.answers.items) c.caller.ensures c.in_ok-answers.ensures))
    c.in_ok-found.ensures
