-- From a file name on: it is tidied and followed, files are looked at, and sections are tested.
use Rattle.hc_abs_segments.proofs.Common.{◌≡◌, ◌∙◌, ℕ, List, [], ◌∷◌, ◌++◌, Bool, true, false, if◌then◌else◌}
use Rattle.hc_abs_segments.proofs.Common.{None, refl, sym, ap, subst, append-nil, map, State, PlanRun, ended}
use Rattle.hc_abs_segments.proofs.Common.{in_hand, plan_run, Plan, done, and_then, Slot, Decision, Event, Outcome}
use Rattle.hc_abs_segments.proofs.Common.{Way, goes_on, is_over, run_then, run, Shown, Step, leaves, ends, say, look}
use Rattle.hc_abs_segments.proofs.Common.{◌>>=◌, ending, Like, decision_of, decisions_in, plan_then}
use Rattle.std.specs.List.{AllByRecursion}
use Rattle.hc_base.specs.Paths.{begins_with_slash, has_dots, has_double_slash, merge_slashes}
use Rattle.hc_base.specs.declared.place.Refusal.{Refusal}
use Rattle.hc_merge.specs.Candidates.{Candidate}
use Rattle.hc_merge.specs.Order.{ordered_sections}
use Rattle.hc_merge.specs.Overriding.{Files_at, no_files, wanted_by}
use Rattle.hc_merge.specs.Settings.{event_of, merged as merged_sections}
use Rattle.hc_model.specs.Overrides.{Loaded, Override, file, none, refused as refused_so}
use Rattle.hc_model.specs.declared.config.Config.{Config}
use Rattle.hc_model.specs.declared.event.Event.TheVariants as event
use Rattle.hc_model.specs.declared.outcome.Outcome.TheVariants.{HtRefused, Outside}
use Rattle.hc_model.specs.declared.outcome.Reason.TheVariants.{DotSegment}
use Rattle.hc_model.specs.declared.section.Body.{Body}
use Rattle.hc_model.specs.declared.walk.Walk.{Walk}
use Rattle.hc_plan.proofs.Sequence.{runs_in_turn}
use Rattle.hc_plan.specs.Running.{tidied}
use Rattle.hc_plan.specs.Texts.{pick}
use Rattle.hc_serve.specs.DirectoryRules.{is_aliased}
unfoldable use Rattle.hc_serve.specs.Passing.{file_looked, files_looked, in_force, left_by, merged, sections_told}
unfoldable use Rattle.hc_serve.specs.Passing.{seen_there, walked, without_dots}
use Rattle.hc_serve.specs.Passing.{force_at, told_each, view_at, with_force, with_tree}
use Rattle.hc_serve.specs.Segments.{Cut, behind_sections}
use Rattle.hc_serve.specs.Site.{Site}
use Rattle.hc_serve.specs.declared.stage.Ended.{Ended}
use Rattle.hc_serve.specs.declared.stage.Here.{Here}
use Rattle.hc_serve.specs.declared.stage.Named.{Named}
use Rattle.hc_serve.specs.declared.stage.Pass.{Pass}
use Rattle.hc_serve.specs.declared.stage.Walked.{Walked}
use Rattle.hc_steps.specs.Step.{Shows, in_order}
use Rattle.hc_steps.specs.Walking.{walk as followed}
use Rattle.hc_abs_rw.specs.Templates.{main, slot_item}
use Rattle.hc_abs_pass.specs.Ends.{Left, MeetsOn, outside, refused}
use Rattle.hc_abs_pass.specs.Naming.{tidy_plan}
use Rattle.hc_abs_pass.specs.Passing.{Ground, Segment, Settings, ends_so, files_by, force_plan, scene_with}
use Rattle.hc_abs_pass.specs.Passing.{sections_from, there_plan}
use Rattle.hc_abs_pass.specs.Sections.{bare, sections_plan}
use Rattle.hc_abs_pass.specs.Views.{Scene}
use Rattle.hc_abs_pass.specs.Walks.{WalkEnd, WalkLike, at_root, ends_in, walk_plan}
use Rattle.hc_abs_pass.proofs.Sections.{sections_agree}
use Rattle.hc_abs_pass.proofs.Slashes.{tidied_is}
use Rattle.hc_abs_pass.proofs.Walks.{walk_like}
use Rattle.hc_abs_segments.specs.Agreeing.{IsGround, ground_of, is_last_pass}
use Rattle.hc_abs_segments.proofs.Joining.{Agrees, agrees_saying, agrees_then, agrees_whole, assoc, begun_in, on_goes}
use Rattle.hc_abs_segments.proofs.Joining.{on_over, over_at, parted}
use Rattle.hc_abs_segments.proofs.Leaving.{as_settled}
use Rattle.hc_abs_segments.proofs.Merged.{begins_merged, single_merged}
use Rattle.hc_abs_segments.proofs.Names.{IsNamed, SamePass}
use Rattle.hc_abs_segments.proofs.Reaching.{Walks, ends_agree, forced}

-- ---- files

-- Nothing is told, and each end is a file that is refused.
abbrev Silent : {A : Type 0} → Step Outcome A → Type 0
Silent (leaves left) = Unit {0}
Silent (ends end) = (refusal : Refusal) × (end ≡ HtRefused refusal)
Silent (say event rest) = ⊥
Silent (look read rest) = (shown : Shows read) → Silent (rest shown)

silent_events : {A : Type 0} (step : Step Outcome A) → Silent step → (shown : Shown) → (run step shown).events ≡ []
unfolding run
silent_events (leaves left) is shown = refl
silent_events (ends end) is shown = refl
silent_events (say event rest) is shown = absurd is
silent_events (look read rest) is shown = silent_events (rest (shown read)) (is (shown read)) shown

silent_end : {A : Type 0} (step : Step Outcome A) → Silent step → (shown : Shown) (end : Outcome)
    → (run step shown).way ≡ is_over end → (refusal : Refusal) × (end ≡ HtRefused refusal)
unfolding run
silent_end (leaves left) is shown end same = absurd (let none = same in cc)
silent_end {A} (ends own) is shown end same = (is.0, sym (inside own end same) ∙ is.1)
  where
    inside : (one other : Outcome) → ◌≡◌ {A = Way Outcome A} (is_over one) (is_over other) → one ≡ other
    inside one other same = let e = same in cc
silent_end (say event rest) is shown end same = absurd is
silent_end (look read rest) is shown end same = silent_end (rest (shown read)) (is (shown read)) shown end same

silent_then : {A B : Type 0} (step : Step Outcome A) (next : A → Step Outcome B) → Silent step
    → ((left : A) → Silent (next left)) → Silent (step >>= next)
unfolding ◌>>=◌
silent_then (leaves left) next is each = each left
silent_then (ends end) next is each = is
silent_then (say event rest) next is each = absurd is
silent_then (look read rest) next is each = λ shown. silent_then (rest shown) next (is shown) each

left_silent : (files : Files_at) (each : Loaded) (own : Override) → Silent (left_by files each own)
unfolding left_by
left_silent files each (refused_so refusal) = (refusal, refl)
left_silent files each none = tt
left_silent files each (file found) = tt

file_silent : (config : Config) (files : Files_at) (each : Loaded) → Silent (file_looked config files each)
unfolding file_looked ◌>>=◌
file_silent config files each = λ shown. left_silent files each _

each_silent : (config : Config) (wanted : List Loaded) (files : Files_at)
    → Silent (in_order (file_looked config) files wanted)
each_silent config [] files = tt
each_silent config (each ∷ wanted) files =
    silent_then (file_looked config files each) (λ files. in_order (file_looked config) files wanted)
    (file_silent config files each) (λ files. each_silent config wanted files)

files_silent : (config : Config) (wanted : List Loaded) → Silent (files_looked config wanted)
unfolding files_looked
files_silent config wanted = each_silent config wanted no_files

-- ---- sections

abbrev Undecided : Event → Type 0
Undecided event = decision_of event ≡ []

sections_undecided : (kept : List Candidate) → AllByRecursion Undecided (map event_of kept)
sections_undecided [] = tt
sections_undecided (candidate ∷ kept) = (refl, sections_undecided kept)

module _ (site : Site) (pass : Pass) (round : ℕ) (shown : Shown) (levels : ℕ) (merges : Body → Bool)
    (names : List ℕ → Bool) (is_ground : IsGround site shown levels merges) (so_far : List Decision) where
  abbrev ground : Ground
  ground = ground_of site (is_last_pass site pass) shown levels merges names

  abbrev Same : PlanRun Segment → Step Ended Cut → Type 0
  Same first step = Agrees site pass round 1 so_far first (run step shown)

  told_agrees : (first : PlanRun Segment) (events : List Event) (here : Here) → AllByRecursion Undecided events
      → Same first (behind_sections site here)
      → Same first (ending (with_tree None) (told_each events here) >>= behind_sections site)
  unfolding run ending ◌>>=◌
  told_agrees first [] here undecided is = is
  told_agrees first (event ∷ events) here undecided is =
      agrees_saying site pass round 1 so_far event first _ undecided.0 (told_agrees first events here undecided.1 is)

  module _ (named : Named) (same : SamePass pass named.pass) (walk : Walk) (aliased : Bool)
      (aliased_is : is_aliased named ≡ aliased) (s : State) (met : Walks site named walk s.slots s.client) where
    abbrev there : Walked
    there = record { named = named; walk = walk }

    abbrev here_with : Files_at → Here
    here_with files = with_force there (force_at site there files)

    abbrev scene : Scene
    scene = scene_with ground (slot_item Slot.Query)

    abbrev next : Settings → Plan Segment
    next settings = force_plan ground settings so_far

    abbrev from_files : Files_at → Step Ended Cut
    from_files files = ending (with_tree None) (sections_told (here_with files)) >>= behind_sections site

    sections_like : (end : WalkEnd) (files : Files_at) → end.kind ≡ walk.kind → end.dirs ≡ walk.dirs
        → Same (plan_run (sections_from ground scene next aliased end files) s) (from_files files)
    unfolding sections_told
    sections_like end files kind dirs =
        let here = here_with files in
        let found = sections_agree merges scene site.config site.host walk (view_at site there) files s
        is_ground.settles (is_ground.nested files walk.dirs) (record {
          path = met.path;
          name = met.file;
          query = met.query;
          method = met.method;
          headers = met.headers;
          client = met.caller;
          scheme = refl;
          host = refl;
          server = refl;
          port = refl;
        }) in
        let settings : Settings = record {
          force = merged_sections site.config site.host found.0;
          aliased = aliased;
          end = end;
        } in
        let candidates = λ (dirs : List (List ℕ)). sections_plan merges scene [] [] []
        (ordered_sections site.config site.host files dirs) in
        let give = λ (kept : List Candidate). next (record {
          force = merged_sections site.config site.host kept;
          aliased = aliased;
          end = end;
        }) in
        told_agrees _ here.force.sections here (sections_undecided _)
        (subst (λ first. Same first (behind_sections site here))
        (sym (runs_in_turn give (candidates end.dirs) s
        ∙ ap (λ first. plan_then first (λ kept s. plan_run (give kept) s))
        (ap (λ dirs. plan_run (candidates dirs) s) dirs ∙ found.1)))
        (subst (λ settings. Same (plan_run (next settings) (bare s)) (behind_sections site here))
        (sym (as_settled site here shown settings (record { force = found.2; aliased = sym aliased_is; kind = kind })))
        (forced site pass round here same shown levels merges names settings so_far (bare s) met)))

    abbrev files_step : Step Outcome Files_at
    files_step = files_looked site.config (wanted_by site.config site.host walk.dirs)

    none_told : decisions_in (run files_step shown).events ≡ []
    none_told =
        ap decisions_in
        (silent_events files_step (files_silent site.config (wanted_by site.config site.host walk.dirs)) shown)

    refuse : Left → Plan Segment
    refuse left = done (ends_so None so_far left)

    files_like : (end : WalkEnd) → end.kind ≡ walk.kind → end.dirs ≡ walk.dirs → (way : Way Outcome Files_at)
        → (run files_step shown).way ≡ way
        → Agrees site pass round 1 so_far
        (plan_run (files_by ground (sections_from ground scene next aliased end) refuse way) s)
        (run_then (begun_in None (run files_step shown)) (λ files. run (from_files files) shown))
    unfolding plan_run refuse
    files_like end kind dirs (goes_on files) is =
        on_goes site pass round 1 None (run files_step shown) (λ files. run (from_files files) shown) so_far so_far
        (plan_run (sections_from ground scene next aliased end files) s) files is
        (sym (ap (λ own. so_far ++ own) none_told ∙ append-nil so_far)) (sections_like end files kind dirs)
    files_like end kind dirs (is_over own) is =
        let only = silent_end files_step (files_silent site.config (wanted_by site.config site.host walk.dirs)) shown
        own is in
        subst (λ own. Agrees site pass round 1 so_far
        (plan_run (files_by ground (sections_from ground scene next aliased end) refuse (is_over own)) s)
        (run_then (begun_in None (run files_step shown)) (λ files. run (from_files files) shown))) (sym only.1)
        (on_over site pass round 1 None (run files_step shown) (λ files. run (from_files files) shown) so_far
        (ended s (ends_so None so_far (refused only.0))) (HtRefused only.0) (is ∙ ap is_over only.1)
        (ends_agree site pass round 1 None so_far s (refused only.0) (is_over (HtRefused only.0))
        (over_at (run files_step shown) (with_tree None (HtRefused only.0))) refl refl none_told))

    there_like : (end : WalkEnd) → end.kind ≡ walk.kind → end.dirs ≡ walk.dirs
        → Same (plan_run (there_plan ground aliased so_far end) s)
        (ending (with_tree None) (in_force site there) >>= behind_sections site)
    unfolding in_force ◌>>=◌ refuse
    there_like end kind dirs =
        let own = files_like end kind dirs (run files_step shown).way refl in
        subst (Same (plan_run (there_plan ground aliased so_far end) s))
        (sym (parted (with_tree None) files_step (λ files. sections_told (here_with files)) (behind_sections site)))
        (subst (λ dirs. Same (plan_run (files_by ground (sections_from ground scene next aliased end) refuse
        (run (files_looked site.config (wanted_by site.config site.host dirs)) shown).way) s)
        (ending (with_tree None) files_step >>= from_files)) (sym dirs)
        (agrees_whole site pass round 1 None files_step from_files shown so_far _ own))

  -- ---- the walk

  module _ (named : Named) (same : SamePass pass named.pass) (aliased : Bool) (aliased_is : is_aliased named ≡ aliased)
    where
      abbrev reached_there : Named → Step Outcome Here
      reached_there named = walked named >>= λ there. in_force site there

      walked_like : (s : State) → MeetsOn site named.pass s → pick s.texts main ≡ named.name
          → begins_with_slash (pick s.texts main) ≡ true → has_double_slash (pick s.texts main) ≡ false
          → Same (plan_run (and_then (walk_plan (ends_in levels shown at_root)) (there_plan ground aliased so_far)) s)
          (ending (with_tree None) (reached_there named) >>= behind_sections site)
      unfolding run walked seen_there ending ◌>>=◌
      walked_like s on text begins single =
          let walks = walk_plan (ends_in levels shown at_root) in
          let behind_walk = λ (walk : Walk). say (event.Walk walk.name walk.info walk.kind)
          (in_force site (record { named = named; walk = walk })) in
          subst (λ first. Same first (ending (with_tree None) (reached_there named) >>= behind_sections site))
          (sym (runs_in_turn (there_plan ground aliased so_far) walks s))
          (subst (Same (plan_then (plan_run walks s) (λ end s. plan_run (there_plan ground aliased so_far end) s)))
          (sym (ap (λ step. ending (with_tree None) step >>= behind_sections site)
          (assoc (followed named.name) (seen_there named) (in_force site))
          ∙ parted (with_tree None) (followed named.name) behind_walk (behind_sections site)))
          (agrees_then site pass round 1 None (followed named.name)
          (λ walk. ending (with_tree None) (behind_walk walk) >>= behind_sections site) shown (WalkLike s) so_far
          (plan_run walks s)
          (λ end s. plan_run (there_plan ground aliased so_far end) s)
          (subst (λ text. Like (WalkLike s) (plan_run walks s) (run (followed text) shown)) text
          (walk_like levels shown s is_ground.listed begins single))
          (λ later end is.
          on_goes site pass round 1 None (run (followed named.name) shown)
          (λ walk. run (ending (with_tree None) (behind_walk walk) >>= behind_sections site) shown) so_far so_far
          (plan_run (there_plan ground aliased so_far end) later) is.0 is.1
          (sym (ap (λ own. so_far ++ own) is.2 ∙ append-nil so_far))
          (agrees_saying site pass round 1 so_far (event.Walk is.0.name is.0.info is.0.kind)
          (plan_run (there_plan ground aliased so_far end) later) _ refl
          (there_like named same is.0 aliased aliased_is later
          (subst (λ (later : State). Walks site named is.0 later.slots later.client) (sym is.3) (record {
            file = refl;
            info = refl;
            query = on.query;
            end = on.end;
            path = on.path;
            method = on.method;
            request = on.request;
            variables = on.variables;
            headers = on.headers;
            caller = on.caller;
          })) end is.4 is.5)))))

  -- ---- the name

  pub named_like : (named : Named) → IsNamed pass named → (aliased : Bool) → is_aliased named ≡ aliased → (s : State)
      → MeetsOn site named.pass s → pick s.texts main ≡ named.name
      → Same (plan_run (tidy_plan (ends_so None so_far)
      (and_then (walk_plan (ends_in levels shown at_root)) (there_plan ground aliased so_far))) s)
      (ending (with_tree None) (merged named >>= λ named. walked named >>= λ there. in_force site there)
      >>= behind_sections site)
  unfolding plan_run run merged without_dots ending ◌>>=◌
  named_like named is aliased aliased_is s on text =
      subst (λ dots. Same (plan_run (elim dots [
        | true ↦ done (ends_so None so_far (outside DotSegment))
        | false ↦ and_then (walk_plan (ends_in levels shown at_root)) (there_plan ground aliased so_far)
      ]) later) whole) (sym (ap has_dots same_text)) (by (has_dots (merge_slashes named.name)))
    where
      own : Named
      own = record named { name = merge_slashes named.name }

      later : State
      later = in_hand s main (tidied has_double_slash merge_slashes (pick s.texts main))

      same_text : tidied has_double_slash merge_slashes (pick s.texts main) ≡ merge_slashes named.name
      same_text = tidied_is (pick s.texts main) ∙ ap merge_slashes text

      further : Named → Step Outcome Here
      further named = walked named >>= λ there. in_force site there

      whole : Step Ended Cut
      whole = ending (with_tree None) (merged named >>= further) >>= behind_sections site

      by : (dots : Bool) → Same (plan_run (elim dots [
        | true ↦ done (ends_so None so_far (outside DotSegment))
        | false ↦ and_then (walk_plan (ends_in levels shown at_root)) (there_plan ground aliased so_far)
      ]) later)
          (ending (with_tree None)
          ((if dots then ends (Outside DotSegment) else say (event.Map own.from own.name) (leaves own)) >>= further)
          >>= behind_sections site)
      by true =
          ends_agree site pass round 1 None so_far later (outside DotSegment) (is_over (Outside DotSegment))
          (run (ends (with_tree None (Outside DotSegment))) shown) refl refl refl
      by false =
          agrees_saying site pass round 1 so_far (event.Map own.from own.name)
          (plan_run (and_then (walk_plan (ends_in levels shown at_root)) (there_plan ground aliased so_far)) later)
          (run (ending (with_tree None) (further own) >>= behind_sections site) shown) refl
          (walked_like own (record { number = is.same.number; first = is.same.first; once = is.same.once }) aliased
          aliased_is later (record {
            text = refl;
            query = on.query;
            info = refl;
            end = on.end;
            path = on.path;
            method = on.method;
            request = on.request;
            variables = on.variables;
            headers = on.headers;
            caller = on.caller;
          }) same_text
          (ap begins_with_slash same_text ∙ begins_merged named.name is.begins)
          (ap has_double_slash same_text ∙ single_merged named.name))
