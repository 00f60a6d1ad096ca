-- From a file name up to the end of its walk.
use Rattle.hc_abs_name.proofs.Common.{◌≡◌, ◌∙◌, ℕ, List, [], ◌∷◌, Bool, true, false, Option, None, Some, refl, sym, ap}
use Rattle.hc_abs_name.proofs.Common.{subst, Plan, done}
use Rattle.hc_base.specs.Paths.{has_dots, has_double_slash, merge_slashes}
use Rattle.hc_base.specs.declared.place.Refusal.{Refusal}
use Rattle.hc_htaccess.specs.Reading.{reading_in}
use Rattle.hc_merge.specs.Candidates.{Candidate}
use Rattle.hc_merge.specs.Overriding.{Files_at, files_read, no_files, wanted_by}
use Rattle.hc_merge.specs.Settings.{merged}
use Rattle.hc_model.specs.Overrides.{Reading}
use Rattle.hc_model.specs.declared.event.Decision.{Decision}
use Rattle.hc_model.specs.declared.outcome.Outcome.{Outcome}
use Rattle.hc_model.specs.declared.outcome.Reason.TheVariants.{DotSegment}
use Rattle.hc_model.specs.declared.walk.Walk.{Walk}
use Rattle.hc_plan.proofs.Coded.{end_fits, joined_fits, put_down_fits}
use Rattle.hc_plan.specs.Branches.{Branch, without_texts}
use Rattle.hc_plan.specs.Coded.{AreBranches}
use Rattle.hc_plan.specs.Plan.{test, tidy}
unfoldable use Rattle.hc_plan.specs.Plan.{and_then}
use Rattle.hc_plan.specs.Slots.{Slot}
use Rattle.hc_plan.specs.States.{AbsState}
use Rattle.hc_plan.specs.declared.storing.Tied.{Tied}
use Rattle.hc_serve.specs.Files.{files_left}
use Rattle.hc_steps.specs.Run.{Way}
use Rattle.hc_abs_force.specs.Merging.{merges}
use Rattle.hc_abs_left.specs.Grounds.{ground_in, shown_in, world_in}
use Rattle.hc_abs_left.specs.Segments.{SegmentFits}
use Rattle.hc_abs_left.specs.declared.ground.Ground.{Ground}
use Rattle.hc_abs_left.specs.declared.segment.Segment.{Segment}
use Rattle.hc_abs_map.specs.Mapped.{AreTidied, MappedFits}
use Rattle.hc_abs_map.specs.declared.mapped.Mapped.{Mapped}
use Rattle.hc_abs_map.specs.declared.mapped.Mapped.TheVariants as mapped
use Rattle.hc_abs_pass.specs.Ends.{EndsAt, Left, left_of, next_pass, outside, refused}
use Rattle.hc_abs_pass.specs.Mapping.{named as in_hand, over}
use Rattle.hc_abs_pass.specs.Naming.{tidy_plan}
use Rattle.hc_abs_pass.specs.Passing as plans
use Rattle.hc_abs_pass.specs.Passing.{ends_so, files_at, files_by, force_plan, scene_with, sections_from, stopped}
use Rattle.hc_abs_pass.specs.Sections.{sections_plan}
use Rattle.hc_abs_pass.specs.Walking.{AreWalked, WalkedFits}
use Rattle.hc_abs_pass.specs.Walks.{WalkEnd, at_root, ends_in, walk_plan}
use Rattle.hc_abs_pass.specs.declared.ends.Left.{Left as LeftIn}
use Rattle.hc_abs_pass.specs.declared.ends.Left.TheVariants as left
use Rattle.hc_abs_pass.specs.declared.walk.Named.{Named}
use Rattle.hc_abs_pass.specs.declared.walk.Walked.{Walked}
use Rattle.hc_abs_restart.specs.Restarted.{PutDown}
use Rattle.hc_abs_rw.specs.RuleBranches.{Rests}
use Rattle.hc_abs_rw.specs.Templates.{main, slot_item}
use Rattle.hc_abs_name.proofs.Clients.{with_clients}
use Rattle.hc_abs_name.proofs.Refusing.{left_ordered, looked_way}
use Rattle.hc_abs_name.specs.Arrived.{AreArrived}
use Rattle.hc_abs_name.specs.Behind.{WithClients}
use Rattle.hc_abs_name.specs.Forced.{AreFromSections, sections_next}
use Rattle.hc_abs_name.specs.Reading.{first_refused, way_by}
use Rattle.hc_abs_name.specs.Walked.{AreBehindReady, AreBehindWalk, AreFromWalk, IsBehindReady, IsBehindWalk}
use Rattle.hc_abs_name.specs.Walked.{ended_plan, ready_next, stopped_at, there_next, walked_plan}

module _ (ground : Ground) (decisions : List Decision) where
  abbrev Fit : Segment → Branch plans.Segment → Type 0
  Fit = SegmentFits ground.client ground.tests.now

  -- ---- ends

  ends_here : (tied : Tied) (left : LeftIn) (end : Left) (state : AbsState) → end ≡ left_of left
      → EndsAt ground.client tied state → PutDown end state
      → AreBranches Fit (done (ends_so None decisions end)) state (stopped_at tied decisions left ∷ [])
  ends_here tied left end state same ends texts =
      end_fits Fit state (ends_so None decisions end) (stopped_at tied decisions left) (record {
        at = ends;
        texts = texts;
        decided = refl;
        require = refl;
        finish = ap stopped same;
      })

  ended_fits : (tied : Tied) (left : LeftIn) (state : AbsState) → EndsAt ground.client tied state
      → AreBranches Fit (ended_plan decisions (left_of left)) state (stopped_at tied decisions left ∷ [])
  ended_fits tied left.NextPass state ends =
      put_down_fits Fit state (done (ends_so None decisions next_pass)) (stopped_at tied decisions left.NextPass ∷ [])
      (ends_here tied left.NextPass next_pass (without_texts state) refl
      (record { cell = ends.cell; ties = ends.ties; given = ends.given; printed = ends.printed }) refl)
  ended_fits tied (left.Status number) state ends =
      ends_here tied (left.Status number) (left_of (left.Status number)) state refl ends tt
  ended_fits tied (left.Outside reason) state ends =
      ends_here tied (left.Outside reason) (left_of (left.Outside reason)) state refl ends tt
  ended_fits tied (left.Found kind) state ends =
      ends_here tied (left.Found kind) (left_of (left.Found kind)) state refl ends tt
  ended_fits tied (left.Sent redirect) state ends =
      ends_here tied (left.Sent redirect) (left_of (left.Sent redirect)) state refl ends tt
  ended_fits tied (left.Refused refusal) state ends =
      ends_here tied (left.Refused refusal) (left_of (left.Refused refusal)) state refl ends tt
  ended_fits tied (left.Limit kind) state ends =
      ends_here tied (left.Limit kind) (left_of (left.Limit kind)) state refl ends tt

  -- ---- a name that is made ready

  pub stopped_behind : (one : Mapped) (tied : Tied) (left : LeftIn) (found : List Segment) → one ≡ mapped.Over tied left
      → found ≡ stopped_at tied decisions left ∷ [] → IsBehindReady ground decisions one found
  stopped_behind one tied left found same is =
      subst (λ one. IsBehindReady ground decisions one found) (sym same)
      (subst (IsBehindReady ground decisions (mapped.Over tied left)) (sym is) (λ levels listed branch fits.
      subst (λ end. AreBranches Fit (ready_next ground decisions levels end) branch.0
      (stopped_at tied decisions left ∷ [])) (sym fits.0.1) (ended_fits tied left branch.0 fits.0.0)))

  pub named_behind : (one : Mapped) (named : Named) (aliased : Bool) (found : List Segment)
      → one ≡ mapped.Name named aliased → AreFromWalk ground decisions aliased named found
      → IsBehindReady ground decisions one found
  named_behind one named aliased found same are =
      subst (λ one. IsBehindReady ground decisions one found) (sym same) (λ levels listed branch fits.
      subst (λ end. AreBranches Fit (ready_next ground decisions levels end) branch.0 found) (sym fits.0.1)
      (are levels branch.0 listed fits.1 fits.0.0))

  module _ (aliased : Bool) (levels : ℕ) where
    tidy_led : and_then (tidy_plan over (done (in_hand aliased))) (ready_next ground decisions levels)
        ≡ tidy_plan (ends_so None decisions) (walked_plan ground decisions aliased levels)
    unfolding and_then
    tidy_led = λ i. tidy main has_double_slash merge_slashes (test main has_dots (λ dots. each dots i))
      where
        each : (dots : Bool) → and_then (elim dots [
          | true ↦ done (over (outside DotSegment))
          | false ↦ done (in_hand aliased)
        ]) (ready_next ground decisions levels) ≡ elim dots [
          | true ↦ done (ends_so None decisions (outside DotSegment))
          | false ↦ walked_plan ground decisions aliased levels
        ]
        each true = refl
        each false = refl

  module _ (named : Named) (aliased : Bool) where
    pub ready_fit : (ready : List Mapped) (found : List Segment) → AreTidied named aliased ready
        → AreBehindReady ground decisions ready found → AreArrived ground decisions named aliased found
    ready_fit ready found are behind levels state listed clients has =
        let plan = tidy_plan over (done (in_hand aliased)) in
        subst (λ plan. AreBranches Fit plan state found) (tidy_led aliased levels)
        (joined_fits (WithClients ground (MappedFits ground.client)) Fit (ready_next ground decisions levels) plan state
        ready found
        (with_clients (MappedFits ground.client) (WithClients ground (MappedFits ground.client)) plan state ready
        (are ground.client state has) (λ one branch first same. (first, same ∙ clients))) (behind levels listed))

    -- ---- walks

    pub walk_fit : (walked : List Walked) (found : List Segment) → AreWalked (shown_in ground) named walked
        → AreBehindWalk ground decisions aliased walked found → AreFromWalk ground decisions aliased named found
    walk_fit walked found are behind levels state listed clients has =
        let plan = walk_plan (ends_in levels (shown_in ground) at_root) in
        joined_fits (WithClients ground (WalkedFits ground.client)) Fit (there_next ground decisions aliased levels) plan
        state walked found
        (with_clients (WalkedFits ground.client) (WithClients ground (WalkedFits ground.client)) plan state walked
        (are ground.client state levels listed has) (λ one branch first same. (first, same ∙ clients)))
        (behind levels listed)

  -- ---- the end of a walk

  abbrev read : Reading
  read = reading_in (world_in ground) ground.config.now

  ends_at : (tied : Tied) (state : AbsState) → Rests ground.client tied state → EndsAt ground.client tied state
  ends_at tied state rests =
      record { cell = rests.cell; ties = rests.ties; given = rests.given; printed = rests.printed }

  module _ (one : Walked) (aliased : Bool) (given : Option Refusal)
      (is : given ≡ first_refused read (wanted_by ground.config.now ground.host one.dirs)) where
    way_to : (levels : ℕ) (end : WalkEnd) → end.dirs ≡ one.dirs → files_at (ground_in levels merges ground) end
        ≡ way_by given (files_left read no_files (wanted_by ground.config.now ground.host end.dirs))
    way_to levels end same =
        looked_way ground.config.now (world_in ground) (wanted_by ground.config.now ground.host end.dirs)
        ∙ ap (λ given. way_by given (files_left read no_files (wanted_by ground.config.now ground.host end.dirs)))
        (ap (λ dirs. first_refused read (wanted_by ground.config.now ground.host dirs)) same ∙ sym is)

    abbrev by_way : ℕ → WalkEnd → Way Outcome Files_at → Plan plans.Segment
    by_way levels end = files_by (ground_in levels merges ground) (λ files. sections_next ground decisions aliased end files levels)
        (λ left. done (ends_so None decisions left))

    -- The first file that is refused ends the pass.
    pub refused_behind : (refusal : Refusal) (found : List Segment) → given ≡ Some refusal
        → found ≡ stopped_at one.tied decisions (left.Refused refusal) ∷ []
        → IsBehindWalk ground decisions aliased one found
    refused_behind refusal found some same levels listed branch fits =
        subst (λ way. AreBranches Fit (by_way levels branch.1 way) branch.0 found)
        (sym (way_to levels branch.1 fits.0.2
        ∙ ap (λ given. way_by given
        (files_left read no_files (wanted_by ground.config.now ground.host branch.1.dirs))) some))
        (subst (AreBranches Fit (done (ends_so None decisions (refused refusal))) branch.0) (sym same)
        (ends_here one.tied (left.Refused refusal) (refused refusal) branch.0 refl (ends_at one.tied branch.0 fits.0.0)
        tt))

    -- Where none is, what is in force follows.
    pub force_behind : (walk : Walk) (found : List Segment) → given ≡ None → walk.kind ≡ one.kind
        → walk.dirs ≡ one.dirs → AreFromSections ground decisions aliased walk (files_read read) one.tied found
        → IsBehindWalk ground decisions aliased one found
    force_behind walk found none kind dirs are levels listed branch fits =
        let own = ground_in levels merges ground in
        let end = branch.1 in
        let files = files_left read no_files (wanted_by ground.config.now ground.host end.dirs) in
        subst (λ way. AreBranches Fit (by_way levels end way) branch.0 found)
        (sym (way_to levels end fits.0.2 ∙ ap (λ given. way_by given files) none))
        (subst (λ (candidates : List Candidate). AreBranches Fit
        (and_then (sections_plan merges (scene_with own (slot_item Slot.Query)) [] [] [] candidates)
        (λ kept. force_plan own (record {
          force = merged ground.config.now ground.host kept;
          aliased = aliased;
          end = end;
        }) decisions)) branch.0 found) (sym (left_ordered read ground.config.now ground.host end.dirs))
        (are levels end branch.0 listed (fits.0.1 ∙ sym kind) (fits.0.2 ∙ sym dirs) fits.1
        (ends_at one.tied branch.0 fits.0.0)))
