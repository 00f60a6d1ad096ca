use Rattle.std.proofs.lemmas.Result.{IfOk-weaker}
use Rattle.hc_abs_left.proofs.Common.{subst}
use Rattle.hc_abs_map.specs.Mapped.{AreRedirected}
use Rattle.hc_abs_left.proofs.Leaving.{left_fit}
use Rattle.hc_abs_left.proofs.left.left_branches.Goals as goal

pub returns : goal.returns
returns c =
    IfOk-weaker c.all_behind.result _ _ (λ found.
    left_fit c.args.ground c.args.settings.now c.args.decisions.now c.args.ran c.args.tied
    c.in_ok-redirected.redirected.items found.items
    (subst (λ redirects. AreRedirected redirects c.args.tied c.in_ok-redirected.redirected.items)
    c.as_slice-redirects.ensures c.in_ok-redirected.ensures.branches)) c.all_behind.ensures
