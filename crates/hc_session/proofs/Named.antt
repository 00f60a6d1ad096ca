-- The names of own servers.
use Rattle.hc_session.proofs.Common.{◌≡◌, List, subst, sym, ◌∙◌}
use Rattle.std.proofs.lemmas.List.Folds.{list_all-map}
use Rattle.std.specs.List.{list_all}
use Rattle.std.specs.Prelude.{map}
use Rattle.hc_ends.specs.Asking.{HaveNames}
use Rattle.hc_follow.specs.declared.origin.Origin.{Origin}
use Rattle.hc_forms.specs.Forms.{is_host_byte}
use Rattle.hc_json.specs.Hosts.{AreNamed, HostForm}
use Rattle.hc_session.specs.Following.{origin_of}

-- Those of a command have the bytes that claims ask for.
pub have_names : (origins : List Origin) (forms : List HostForm) → origins ≡ map origin_of forms → AreNamed forms
    → HaveNames origins
have_names origins forms are named =
    subst HaveNames (sym are) (list_all-map (λ own. list_all is_host_byte own.host) origin_of forms ∙ named)
