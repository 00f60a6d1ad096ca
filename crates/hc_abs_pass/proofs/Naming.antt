-- What a pass goes on with behind the rules of the server.
use Rattle.hc_abs_pass.proofs.Common.{◌≡◌, ◌∙◌, ℕ, List, [], ◌∷◌, ◌++◌, Bool, true, false}
use Rattle.hc_abs_pass.proofs.Common.{not, if◌then◌else◌, Option, Some, None, refl, sym, ap, subst}
use Rattle.hc_abs_pass.proofs.Common.{append-nil, State, PlanRun, ended, Plan, plan_run, run, Shown, Step}
use Rattle.hc_abs_pass.proofs.Common.{◌>>=◌, is_over, Like, Meets, Slot, in_hand, leaves, ends}
use Rattle.hc_alias.specs.Mapping.{root_of, under_root}
use Rattle.hc_alias.specs.declared.mapping.Mapped.{Mapped}
use Rattle.hc_alias.specs.declared.mapping.Mapped.TheVariants as mapped
use Rattle.hc_base.specs.Paths.{begins_with_slash, has_dots, has_double_slash, merge_slashes}
use Rattle.hc_model.specs.declared.outcome.Outcome.{Outcome}
use Rattle.hc_model.specs.declared.outcome.Outcome.TheVariants.{Outside, Status}
use Rattle.hc_model.specs.declared.outcome.Reason.TheVariants.{DotSegment}
use Rattle.hc_plan.specs.Plan.{done, from_hand, store}
use Rattle.hc_plan.specs.Running.{tidied}
use Rattle.hc_plan.specs.Slots.{put}
use Rattle.hc_plan.specs.Texts.{all_three}
use Rattle.hc_rw_expand.specs.declared.state.RwState.{RwState}
unfoldable use Rattle.hc_serve.specs.Passing.{absolute_left, exists, finished, mapped_at, name_left, name_of, named}
unfoldable use Rattle.hc_serve.specs.Passing.{path_left, path_without_dots, text_left}
use Rattle.hc_serve.specs.ServerRules.{context_at, first_component, pass_with}
use Rattle.hc_serve.specs.Site.{Site}
use Rattle.hc_vhost.specs.Servers.{servers_of}
use Rattle.hc_abs_rw.specs.Templates.{header_slot, main}
use Rattle.hc_abs_pass.specs.Ends.{Left, MeetsOn, outside, sent, status}
use Rattle.hc_abs_pass.specs.Mapping.{Maps, Outcomes, Placing, map_plan, over, under_root_plan}
use Rattle.hc_abs_pass.specs.Mapping.{named as in_hand_so}
use Rattle.hc_abs_pass.specs.Naming.{NamedLike, NamingAgrees, first_exists, placed_plan, text_plan}
use Rattle.hc_serve.specs.declared.stage.Named.{Named}
use Rattle.hc_serve.specs.declared.stage.Pass.{Pass}
use Rattle.hc_serve.specs.declared.stage.Placed.{Placed}
use Rattle.hc_abs_rw.proofs.Staging.{like_same}
use Rattle.hc_abs_pass.specs.Naming.{there}
use Rattle.hc_steps.specs.Step.{Path}
use Rattle.hc_abs_pass.proofs.Mapping.{map_goes}
use Rattle.hc_abs_pass.proofs.Slashes.{tidied_is}

module _ (site : Site) (shown : Shown) where
  same_slots : (pass : Pass) (s later : State) → later.slots ≡ s.slots → later.client ≡ s.client
      → MeetsOn site pass s → MeetsOn site pass later
  same_slots pass s later slots client meets = record {
    text = refl;
    query = ap (λ slots. slots Slot.Query) slots ∙ meets.query;
    info = refl;
    end = ap (λ slots. slots Slot.End) slots ∙ meets.end;
    path = ap (λ slots. slots Slot.Path) slots ∙ meets.path;
    method = ap (λ slots. slots Slot.Method) slots ∙ meets.method;
    request = ap (λ slots. slots Slot.Request) slots ∙ meets.request;
    variables = λ name. ap (λ slots. slots (Slot.Env name)) slots ∙ meets.variables name;
    headers = λ name. ap (λ slots. slots (header_slot name)) slots ∙ meets.headers name;
    caller = client ∙ meets.caller;
  }

  -- A name is in hand, or the pass has ended, as the mapping says.
  named_like : (pass : Pass) (s : State) (first : PlanRun Placing) (own : Mapped) → MeetsOn site pass s
      → Maps site.caller s first own
      → Like (NamedLike site) first (run (named pass own) shown)
  unfolding run named
  named_like pass s first (mapped.Name name from) meets is =
      subst (λ first. Like (NamedLike site) first (run (named pass (mapped.Name name from)) shown)) (sym is.1)
      (refl, _, refl, is.2, refl, same_slots pass s is.0 is.3 is.4 meets)
  named_like pass s first (mapped.Away away) meets is =
      subst (λ first. Like (NamedLike site) first (run (named pass (mapped.Away away)) shown)) (sym is.2)
      (by is.1 is.3)
    where
      by : (left : Left) → Outcomes site.caller is.0 left away.outcome
          → Like (NamedLike site) (ended is.0 (over left)) (run (named pass (mapped.Away away)) shown)
      by (sent redirect) is = (refl, away.outcome, refl, is)
      by (status number) is = (refl, ap is_over is)
      by other is = absurd is
  named_like pass s first mapped.NoRoot meets is =
      subst (λ first. Like (NamedLike site) first (run (named pass mapped.NoRoot) shown)) (sym is.1) (refl, refl)

  module _ (pass : Pass) (left : RwState) (s : State) (meets : Meets (context_at site pass) left s) where
    abbrev own_pass : Pass
    own_pass = pass_with pass left

    on_pass : MeetsOn site own_pass s
    on_pass = record {
      text = refl;
      query = meets.query;
      info = refl;
      end = meets.end;
      path = meets.path;
      method = meets.method;
      request = meets.request;
      variables = meets.variables;
      headers = meets.headers;
      caller = meets.caller;
    }

    abbrev text : List ℕ
    text = s.slots Slot.Text ++ []

    same_text : text ≡ left.text
    same_text = append-nil (s.slots Slot.Text) ∙ meets.text

    abbrev mapping : Plan Placing
    mapping = map_plan (servers_of site.config site.host)

    mapped_like : Like (NamedLike site) (plan_run mapping s) (run (mapped_at site own_pass) shown)
    unfolding mapped_at
    mapped_like = named_like own_pass s _ _ on_pass
        (map_goes site.caller (servers_of site.config site.host) pass.path left.query s meets.path meets.query)

    -- PT.
    abbrev path_like : Bool → Bool → Type 0
    path_like dots other = Like (NamedLike site)
        (plan_run (elim dots [
          | true ↦ done (over (outside DotSegment))
          | false ↦ store ((Slot.Path, from_hand main) ∷ []) mapping
        ]) (in_hand (in_hand (in_hand s main text) main text) main (tidied has_double_slash merge_slashes text)))
        (run (if other then ends (Outside DotSegment)
        else mapped_at site (record own_pass { path = merge_slashes left.text })) shown)

    path_by : (dots : Bool) → path_like dots dots
    unfolding plan_run run mapped_at
    path_by true = (refl, refl)
    path_by false =
        let merged = merge_slashes left.text in
        let is = tidied_is text ∙ ap merge_slashes same_text in
        let later : State = record s {
          slots = put Slot.Path (tidied has_double_slash merge_slashes text) s.slots;
          texts = all_three [];
        } in
        named_like (record own_pass { path = merged }) later _ _ (record {
          text = refl;
          query = meets.query;
          info = refl;
          end = meets.end;
          path = is;
          method = meets.method;
          request = meets.request;
          variables = meets.variables;
          headers = meets.headers;
          caller = meets.caller;
        }) (map_goes site.caller (servers_of site.config site.host) merged left.query later is meets.query)

    abbrev root : Option (List ℕ)
    root = root_of (servers_of site.config site.host)

    -- The first component names something, or the document root stands in front.
    abbrev file_like : Bool → Bool → Type 0
    file_like own other = Like (NamedLike site)
        (plan_run (elim own [ true ↦ done (in_hand_so true) | false ↦ under_root_plan root Slot.Text ])
        (in_hand (in_hand s main text) main text))
        (run (name_left site own_pass left.text other >>= name_of site) shown)

    file_by : (own : Bool) → file_like own own
    unfolding plan_run run name_left name_of named ◌>>=◌
    file_by true = (refl, _, refl, same_text, refl, same_slots own_pass s (in_hand s main text) refl refl on_pass)
    file_by false = by _ (λ next. refl) root
      where
        by : (place : Named → Step Outcome Placed) → ((next : Named) → (place next >>= name_of site)
            ≡ leaves next)
            → (root : Option (List ℕ)) → Like (NamedLike site)
            (plan_run (under_root_plan root Slot.Text) (in_hand (in_hand s main text) main text))
            (run ((named own_pass (under_root root left.text) >>= place) >>= name_of site) shown)
        by place is None = (refl, refl)
        by place is (Some root) =
            let next : Named = record { pass = own_pass; name = root ++ left.text; from = None; own = false } in
            subst (λ step. Like (NamedLike site)
            (plan_run (under_root_plan (Some root) Slot.Text) (in_hand (in_hand s main text) main text))
            (run step shown)) (sym (is next)) (
              refl,
              next,
              refl,
              ap (λ text. root ++ text) same_text,
              refl,
              same_slots own_pass s (in_hand s main text) refl refl on_pass,
            )

    exists_like : (found : Option Path) (plan : PlanRun Placing)
        → Like (NamedLike site) plan (run (name_left site own_pass left.text
        (there shown found) >>= name_of site) shown)
        → Like (NamedLike site) plan (run (exists found >>= name_left site own_pass left.text >>= name_of site) shown)
    unfolding run exists ◌>>=◌
    exists_like None plan is = is
    exists_like (Some path) plan is =
        like_same (NamedLike site) plan _ _ refl refl is

    distributed : (dots : Bool) (end : Outcome) (one : Step Outcome Placed) (plan : PlanRun Placing)
        → Like (NamedLike site) plan (run (if dots then ends end else (one >>= name_of site)) shown)
        → Like (NamedLike site) plan (run ((if dots then ends end else one) >>= name_of site) shown)
    unfolding ◌>>=◌
    distributed true end one plan is = is
    distributed false end one plan is = is

    text_by : (passed : Bool) → Like (NamedLike site)
        (plan_run (text_plan shown (servers_of site.config site.host) passed)
        (in_hand s main text))
        (run (absolute_left site passed own_pass left.text >>= name_of site) shown)
    unfolding plan_run run path_left path_without_dots absolute_left name_of mapped_at ◌>>=◌
    text_by true =
        distributed (has_dots (merge_slashes left.text)) (Outside DotSegment) _ _
        (subst (λ dots. path_like dots (has_dots (merge_slashes left.text)))
        (sym (ap has_dots (tidied_is text ∙ ap merge_slashes same_text)))
        (path_by (has_dots (merge_slashes left.text))))
    text_by false =
        exists_like (first_component left.text) _
        (subst (λ own. file_like own (there shown (first_component left.text)))
        (sym (ap (first_exists shown) same_text)) (file_by (there shown (first_component left.text))))

    slash_like : (passed : Bool) → Like (NamedLike site)
        (plan_run (placed_plan shown (servers_of site.config site.host) true passed) s)
        (run (text_left site passed own_pass left.text >>= name_of site) shown)
    unfolding plan_run run placed_plan text_left ◌>>=◌
    slash_like passed =
        subst (λ own. Like (NamedLike site)
        (plan_run (placed_plan shown (servers_of site.config site.host) true passed) s)
        (run ((if own then absolute_left site passed own_pass left.text else ends
        (Status 400)) >>= name_of site) shown))
        (ap begins_with_slash same_text) (by (begins_with_slash text))
      where
        by : (begins : Bool) → Like (NamedLike site)
            (plan_run (elim (not begins) [
              | true ↦ done (over (status 400))
              | false ↦ text_plan shown (servers_of site.config site.host) passed
            ]) (in_hand s main text))
            (run ((if begins then absolute_left site passed own_pass left.text else ends (Status 400)) >>= name_of site)
            shown)
        by true = text_by passed
        by false = (refl, refl)

    placed_like : (substituted passed : Bool) → Like (NamedLike site)
        (plan_run (placed_plan shown (servers_of site.config site.host) substituted passed) s)
        (run (finished site pass (record { left = record { state = left; substituted = substituted }; passed = passed })
        >>= name_of site) shown)
    unfolding plan_run run placed_plan finished name_of ◌>>=◌
    placed_like false passed = mapped_like
    placed_like true passed = slash_like passed

pub naming_agrees : NamingAgrees
naming_agrees site pass finished_run shown state meets =
    placed_like site shown pass finished_run.left.state state meets finished_run.left.substituted finished_run.passed
