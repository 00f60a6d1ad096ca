use Rattle.std.proofs.Common.{map, subst, sym}
use Rattle.std.proofs.lemmas.Result.{IfOk-weaker}
use Rattle.hc_json.specs.CommandView.{host_view}
use Rattle.hc_json.specs.Hosts.{AreNamed}
use Rattle.hc_session.proofs.Named.{have_names}
use Rattle.hc_session.proofs.following.origins_in.Goals as goal

pub returns-clause-named : goal.returns-clause-named
returns-clause-named c =
    let named =
    subst (λ forms. AreNamed (map host_view forms)) (sym c.as_slice.ensures.value) c.in_ok-forms.ensures.named in
    IfOk-weaker c.origins_of.result _ _
    (λ origins are. have_names origins.items (map host_view c.as_slice.result.now) are named) c.origins_of.ensures
