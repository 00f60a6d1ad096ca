use Rattle.std.proofs.Common.{subst, sym, ◌≡◌}
use Rattle.std.proofs.lemmas.Result.{IfOk-weaker}
use Rattle.hc_abs_authz.proofs.Branching.{admitted}
use Rattle.hc_abs_authz.specs.Admitting.{AreAdmitted}
use Rattle.hc_abs_authz.specs.Ways.{admitted_by}
use Rattle.hc_abs_authz.specs.Asking.{AreValuesAt}
use Rattle.hc_abs_authz.proofs.admitting.admitted_branches.Goals as goal

pub returns : goal.returns
returns c =
    IfOk-weaker c.branches_by.result (λ found. found.items ≡ admitted_by c.args.tied c.in_ok-values.values) _
    (λ found is. subst (AreAdmitted c.args.caller.now c.args.net.now c.args.require.now c.args.tied) (sym is)
    (admitted c.args.net.now c.in_ok-methods.methods c.args.caller.now c.args.tied c.args.require.now
    c.in_ok-values.values c.in_ok-methods.ensures
    (subst (λ require. AreValuesAt c.args.net.now c.in_ok-methods.methods c.args.caller.now.request require
    c.in_ok-values.values) c.joins.ensures c.in_ok-values.ensures)))
    c.branches_by.ensures
