-- Behind the rules of a directory: the redirects of its sections, and the restart or what stands there.
use Rattle.hc_abs_segments.proofs.Common.{◌≡◌, ◌∙◌, ℕ, List, [], ◌∷◌, Bool, true, false, if◌then◌else◌}
use Rattle.hc_abs_segments.proofs.Common.{Option, Some, None, refl, sym, ap, ap₂, subst, State, PlanRun}
use Rattle.hc_abs_segments.proofs.Common.{ended, too_long, left_out, plan_run, plan_then, Plan, done, Slot, Decision}
use Rattle.hc_abs_segments.proofs.Common.{Outcome, RwState, Run, is_over, run, Shown}
use Rattle.hc_abs_segments.proofs.Common.{◌>>=◌, Like}
use Rattle.hc_alias.specs.Locations.{location}
use Rattle.hc_alias.specs.Mapping.{away_by, redirect_spot}
use Rattle.hc_alias.specs.Tests.{Found, first_taking, found_by, or_later}
use Rattle.hc_model.specs.declared.authorization.ReqTree.{ReqTree}
use Rattle.hc_model.specs.declared.mapping.PathTest.{PathTest}
use Rattle.hc_model.specs.declared.mapping.Redirect.{Redirect}
use Rattle.hc_model.specs.declared.outcome.Outcome.TheVariants as outcome
use Rattle.hc_model.specs.declared.request.Caller.{Caller}
use Rattle.hc_plan.proofs.Sequence.{runs_in_turn}
use Rattle.hc_plan.specs.Running.{holding}
use Rattle.hc_serve.specs.DirectoryRules.{engine_in, is_last, path_for, query_left, root_at}
use Rattle.hc_serve.specs.Passing.{outcome_at}
unfoldable use Rattle.hc_serve.specs.Passing.{finished_there, sent_by, sent_there}
unfoldable use Rattle.hc_serve.specs.Passing.{answered}
use Rattle.hc_serve.specs.ServerRules.{context_at}
use Rattle.hc_serve.specs.Site.{Site}
use Rattle.hc_serve.specs.declared.stage.Here.{Here}
use Rattle.hc_serve.specs.declared.stage.Pass.{Pass}
use Rattle.hc_target.specs.Urls.{is_redirection}
use Rattle.std.specs.Option.{option_map}
use Rattle.hc_abs_rw.specs.Standing.{Stands}
use Rattle.hc_abs_rw.specs.Templates.{groups}
use Rattle.hc_abs_rw.proofs.Staging.{Relation}
use Rattle.hc_abs_pass.specs.Ends.{Ends, EndsLike, Left, MeetsHere, found as found_there, sent, status}
use Rattle.hc_abs_pass.specs.Mapping.{Outcomes, Sends, redirects_plan, sent_away}
use Rattle.hc_abs_pass.specs.Passing.{Ground, Segment, Settings, ends_so, left_plan, path_of}
use Rattle.hc_abs_pass.specs.Restarting.{restart_plan}
use Rattle.hc_abs_pass.proofs.Mapping.{Entered, entries_go}
use Rattle.hc_abs_pass.proofs.Restarting.{restart_like}
use Rattle.hc_abs_segments.specs.Agreeing.{SettlesHere, ground_of}
use Rattle.hc_model.specs.declared.section.Body.{Body}
use Rattle.hc_rw_eval.specs.Directories.{url_path}
use Rattle.hc_serve.specs.Passing.{answered_by}
use Rattle.hc_serve.specs.DirectoryRules.{is_aliased}

-- ---- redirects

-- The first entry that takes a path does take it.
takes : {E : Type 0} (from : E → PathTest) (path : List ℕ) (entries : List E) (taken : E × Found)
    → first_taking from entries path ≡ Some taken → found_by (from taken.0) path ≡ Some taken.1
takes from path [] taken is = absurd (let none = is in cc)
takes {E} from path (entry ∷ entries) taken is =
    by (found_by (from entry) path) refl (λ is. takes from path entries taken is) is
  where
    by : (own : Option Found) → found_by (from entry) path ≡ own
        → (first_taking from entries path ≡ Some taken → found_by (from taken.0) path ≡ Some taken.1)
        → or_later entry own (first_taking from entries path) ≡ Some taken → found_by (from taken.0) path ≡ Some taken.1
    by (Some found) own_is later is =
        subst (λ (taken : E × Found). found_by (from taken.0) path ≡ Some taken.1) (inside (entry, found) taken is)
        own_is
      where
        inside : (one other : E × Found) → Some one ≡ Some other → one ≡ other
        inside one other same = let e = same in cc
    by None own_is later is = later is

sends : {A : Type 0} (give : Left → A) (caller : Caller) (path query : List ℕ) (redirect : Redirect) (own : Found)
    → found_by redirect.from path ≡ Some own → (s : State) → s.slots Slot.Path ≡ path → s.slots Slot.Query ≡ query
    → Sends caller give (plan_run (sent_away give redirect) s) (away_by caller query (redirect, own))
unfolding plan_run
sends give caller path query redirect own taken_is s meets asked = by (is_redirection redirect.status)
  where
    by : (is : Bool) → Sends caller give
        (ended (holding s groups (λ at. [])) (give (if is then sent redirect else status redirect.status)))
        (record {
          outcome = if is then outcome.Redirect redirect.status (location caller redirect own query)
              else outcome.Status redirect.status;
          from = redirect_spot redirect;
        })
    by true = (
      holding s groups (λ at. []),
      sent redirect,
      refl,
      (
        own,
        ap (found_by redirect.from) meets ∙ taken_is,
        ap (λ query. outcome.Redirect redirect.status (location caller redirect own query)) (sym asked),
      ),
    )
    by false = (holding s groups (λ at. []), status redirect.status, refl, refl)

-- ---- the same slots and client

pub stands_moved : (site : Site) (here : Here) (left : RwState) (s later : State) → later.slots ≡ s.slots
    → later.client ≡ s.client → MeetsHere site here left s → MeetsHere site here left later
stands_moved site here left s later slots client meets = record {
  meets = subst (λ slots. Stands (context_at site here.named.pass) left slots later.client) (sym slots)
      (subst (λ client. Stands (context_at site here.named.pass) left s.slots client) (sym client) meets.meets);
  name = ap (λ slots. slots Slot.Name) slots ∙ meets.name;
  once = meets.once;
}

module _ (site : Site) (here : Here) (shown : Shown) where
  abbrev pub require : Option ReqTree
  require = here.force.require

  -- The plan ends so, as a pass ends.
  abbrev pub StopLike : List Decision → Relation Segment Pass
  StopLike so_far s segment way decisions =
      (left : Left) × (segment ≡ ends_so require so_far left) × EndsLike site s left way decisions

  abbrev give : List Decision → Left → Segment
  give so_far left = ends_so require so_far left

  like_stops : (so_far : List Decision) (first : PlanRun Left) (later : Run Outcome Pass)
      → Like (EndsLike site) first later
      → Like (StopLike so_far) (plan_then first (λ left s. ended s (give so_far left))) later
  like_stops so_far (ended s left) later is = (left, refl, is)
  like_stops so_far too_long later is = is
  like_stops so_far left_out later is = is

  ends_by : (s : State) (own : Outcome) (left : Left) → Outcomes site.caller s left own → Ends site s left (is_over own)
  ends_by s own (sent redirect) is = (own, refl, is)
  ends_by s own (status number) is = ap is_over is
  ends_by s own other is = absurd is

  -- The first redirect that takes the path, or what follows.
  redirects_like : (left : Option RwState) (so_far : List Decision) (plan : Plan Segment) (s : State)
      → s.slots Slot.Path ≡ here.named.pass.path → s.slots Slot.Query ≡ query_left here left
      → ((later : State) → later.slots ≡ s.slots → later.client ≡ s.client
      → Like (StopLike so_far) (plan_run plan later) (run (answered site here left) shown))
      → Like (StopLike so_far) (plan_run (redirects_plan (give so_far) here.force.redirects plan) s)
      (run (finished_there site here left) shown)
  unfolding run ◌>>=◌ finished_there sent_there sent_by
  redirects_like left so_far plan s path query each =
      by (first_taking (λ redirect. redirect.from) here.force.redirects here.named.pass.path) refl
      (plan_run (redirects_plan (give so_far) here.force.redirects plan) s)
      (entries_go (λ redirect. redirect.from) (sent_away (give so_far)) here.named.pass.path here.force.redirects plan
      s path)
    where
      by : (own : Option (Redirect × Found))
          → first_taking (λ redirect. redirect.from) here.force.redirects here.named.pass.path ≡ own
          → (first : PlanRun Segment)
          → Entered (λ redirect. redirect.from) (sent_away (give so_far)) here.named.pass.path plan s first own
          → Like (StopLike so_far) first
          (run (sent_by (option_map (away_by site.caller (query_left here left)) own)
          >>= λ unit. answered site here left)
          shown)
      by None own_is first is =
          subst (λ first. Like (StopLike so_far) first (run (answered site here left) shown)) (sym is.1)
          (each is.0 is.2 is.3)
      by (Some own) own_is first is =
          let away = away_by site.caller (query_left here left) own in
          let gone = sends (give so_far) site.caller here.named.pass.path (query_left here left) own.0 own.1
          (takes (λ redirect. redirect.from) here.named.pass.path here.force.redirects own own_is) is.0
          (ap (λ slots. slots Slot.Path) is.3 ∙ path) (ap (λ slots. slots Slot.Query) is.3 ∙ query) in
          subst (λ first. Like (StopLike so_far) first
          (run (sent_by (Some away) >>= λ unit. answered site here left) shown))
          (sym (is.1 ∙ gone.2)) (gone.1, refl, (refl, ends_by gone.0 away.outcome gone.1 gone.3))

  -- ---- settings with what is in force there

  abbrev pub settled : Settings → Settings
  settled settings = record {
    force = record {
      follow = here.force.follow;
      require = here.force.require;
      engine = here.force.engine;
      dir = here.force.dir;
      base = here.force.base;
      rules = here.force.rules;
      redirects = here.force.redirects;
      sections = settings.force.sections;
    };
    aliased = is_aliased here.named;
    end = record {
      rests = settings.end.rests;
      name = settings.end.name;
      info = settings.end.info;
      kind = here.walk.kind;
      dirs = settings.end.dirs;
    };
  }

  pub as_settled : (settings : Settings) → SettlesHere settings here → settings ≡ settled settings
  as_settled settings same = λ i. record {
    force = record {
      follow = same.force.follow i;
      require = same.force.require i;
      engine = same.force.engine i;
      dir = same.force.dir i;
      base = same.force.base i;
      rules = same.force.rules i;
      redirects = same.force.redirects i;
      sections = settings.force.sections;
    };
    aliased = same.aliased i;
    end = record {
      rests = settings.end.rests;
      name = settings.end.name;
      info = settings.end.info;
      kind = same.kind i;
      dirs = settings.end.dirs;
    };
  }

  pub is_settled : (settings : Settings) → SettlesHere (settled settings) here
  is_settled settings = record {
    force = record {
      follow = refl;
      require = refl;
      engine = refl;
      dir = refl;
      base = refl;
      rules = refl;
      redirects = refl;
    };
    aliased = refl;
    kind = refl;
  }

  module _ (last : Bool) (last_is : is_last site here ≡ last) (levels : ℕ) (merges : Body → Bool)
      (names : List ℕ → Bool) (settings : Settings) where
    abbrev ground : Ground
    ground = ground_of site last shown levels merges names

    path_by : (dir : Option (List ℕ)) → ◌≡◌ {A = List ℕ → List ℕ} (λ text. elim dir [
      | None ↦ text
      | Some dir ↦ url_path (root_at site) (engine_in here dir) text
    ]) (path_for site here dir)
    path_by None = refl
    path_by (Some dir) = refl

    -- Behind rules.
    pub ran_like : (left : RwState) (so_far : List Decision) (s : State) → MeetsHere site here left s
        → Like (StopLike so_far) (plan_run (left_plan ground (settled settings) so_far true) s)
        (run (finished_there site here (Some left)) shown)
    unfolding plan_run answered
    ran_like left so_far s meets =
        redirects_like (Some left) so_far _ s meets.meets.path meets.meets.query (λ later slots client.
        subst (λ first. Like (StopLike so_far) first (run (answered_by site here left) shown))
        (sym (runs_in_turn (λ left. done (give so_far left))
        (restart_plan here.walk.kind last (path_of ground (settled settings)) names) later))
        (like_stops so_far
        (plan_run (restart_plan here.walk.kind last (path_of ground (settled settings)) names) later)
        (run (answered_by site here left) shown)
        (subst (λ placed. Like (EndsLike site) (plan_run (restart_plan here.walk.kind last placed names) later)
        (run (answered_by site here left) shown)) (sym (path_by here.force.dir))
        (subst (λ last. Like (EndsLike site)
        (plan_run (restart_plan here.walk.kind last (path_for site here here.force.dir) names) later)
        (run (answered_by site here left) shown)) last_is
        (restart_like site here left shown names later (stands_moved site here left s later slots client meets))))))

    -- Without rules.
    pub stood_like : (so_far : List Decision) (s : State)
        → s.slots Slot.Path ≡ here.named.pass.path → s.slots Slot.Query ≡ here.named.pass.query
        → s.slots Slot.Name ≡ here.walk.name → s.slots Slot.Info ≡ here.walk.info
        → Like (StopLike so_far) (plan_run (left_plan ground (settled settings) so_far false) s)
        (run (finished_there site here None) shown)
    unfolding plan_run run answered
    stood_like so_far s path query name info =
        redirects_like None so_far _ s path query (λ later slots client. (
          found_there here.walk.kind,
          refl,
          (
            refl,
            ap₂ (λ name info. is_over (outcome_at here.walk.kind name info))
                (sym (ap (λ slots. slots Slot.Name) slots ∙ name))
                (sym (ap (λ slots. slots Slot.Info) slots ∙ info)),
          ),
        ))
