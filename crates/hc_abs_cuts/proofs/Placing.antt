-- What is in force at an end of the walk, and at all of them.
use Rattle.hc_abs_cuts.proofs.Common.{◌≡◌, ◌∙◌, ℕ, List, [], ◌∷◌, ◌++◌, Option, None, Some, refl, sym, ap, subst}
use Rattle.hc_abs_cuts.proofs.Common.{Automaton, accepts, Accepts, IsText, Branch, AllFit, AreBranches, Plan, AbsState}
use Rattle.hc_abs_cuts.proofs.Common.{Tied, ground_in, shown_in, Ground, Settings, WalkEnd, End, Place, append_assoc}
use Rattle.hc_abs_cuts.proofs.Common.{append-nil}
use Rattle.hc_base.specs.declared.place.Refusal.{Refusal}
use Rattle.hc_htaccess.specs.Reading.{reading_in}
use Rattle.hc_merge.specs.Candidates.{Candidate}
use Rattle.hc_merge.specs.Overriding.{Files_at, files_read, no_files, wanted_by}
use Rattle.hc_model.specs.Overrides.{Reading}
use Rattle.hc_model.specs.World.{root}
use Rattle.hc_model.specs.declared.outcome.Outcome.{Outcome}
use Rattle.hc_model.specs.declared.walk.Walk.{Walk}
use Rattle.hc_plan.proofs.Coded.{both_fit}
unfoldable use Rattle.hc_plan.specs.Branches.{Branches}
use Rattle.hc_plan.specs.Plan.{and_then, held, leave_out}
use Rattle.hc_serve.specs.Files.{files_left}
use Rattle.hc_steps.specs.Run.{Way}
use Rattle.hc_abs_force.specs.Merging.{merges}
use Rattle.hc_abs_left.specs.Grounds.{world_in}
use Rattle.hc_abs_run.proofs.Common.{first_refused, left_ordered, looked_way, way_by}
use Rattle.hc_abs_pass.proofs.Alike.{IsEnd, IsSeen, root_fit}
use Rattle.hc_abs_pass.specs.Passing.{files_at, scene_with}
use Rattle.hc_abs_pass.specs.Sections.{sections_plan}
use Rattle.hc_abs_pass.specs.Walking.{AreEnds}
use Rattle.hc_abs_pass.specs.Walks.{at_root, ends_in}
use Rattle.hc_abs_rw.specs.RuleBranches.{Rests}
use Rattle.hc_abs_rw.specs.Templates.{looked}
use Rattle.hc_abs_cuts.proofs.Named.{exact_alike}
use Rattle.hc_abs_cuts.proofs.Naming.{Later, at_this_end}
use Rattle.hc_abs_cuts.specs.Coded.{AreAtEndsIn, ArePlaces, AreSectioned, EndsSo, IsAtEnd, IsNamed, PlaceFits}
use Rattle.hc_abs_pass.specs.Again.{AreAtEnds, files_left_at, settings_at, where_of}
use Rattle.hc_abs_cuts.specs.Exact.{exact_of}

nothing_left_out : (ground : Ground) (state : AbsState) → AreBranches (PlaceFits ground.client) leave_out state []
unfolding Branches
nothing_left_out ground state = ([], refl, refl)

module _ (ground : Ground) (dir : List ℕ) where
  abbrev read : Reading
  read = reading_in (world_in ground) ground.config.now

  -- ---- one end

  module _ (code : End) (given : Option Refusal)
      (is : given ≡ first_refused read (wanted_by ground.config.now ground.host code.dirs)) where
    way_to : (levels : ℕ) (end : WalkEnd) → end.dirs ≡ code.dirs → files_at (ground_in levels merges ground) end
        ≡ way_by given (files_left read no_files (wanted_by ground.config.now ground.host end.dirs))
    way_to levels end same =
        looked_way ground.config.now (world_in ground) (wanted_by ground.config.now ground.host end.dirs)
        ∙ ap (λ given. way_by given (files_left read no_files (wanted_by ground.config.now ground.host end.dirs)))
        (ap (λ dirs. first_refused read (wanted_by ground.config.now ground.host dirs)) same ∙ sym is)

    abbrev by_way : ℕ → WalkEnd → AbsState → List Place → Way Outcome Files_at → Type 0
    by_way levels end now found way =
        AreBranches (PlaceFits ground.client) (files_left_at (ground_in levels merges ground) dir end way) now found

    -- A file that is refused leaves nothing.
    pub refused_later : (levels : ℕ) (end : WalkEnd) (refusal : Refusal) (now : AbsState) → given ≡ Some refusal
        → end.dirs ≡ code.dirs → by_way levels end now [] (files_at (ground_in levels merges ground) end)
    refused_later levels end refusal now some same =
        subst (by_way levels end now [])
        (sym (way_to levels end same ∙ ap (λ given. way_by given
        (files_left read no_files (wanted_by ground.config.now ground.host end.dirs))) some))
        (nothing_left_out ground now)

    pub sections_later : (levels : ℕ) (end : WalkEnd) (walk : Walk) (tied : Tied) (found : List Place) (now : AbsState)
        → given ≡ None → end.kind ≡ walk.kind → end.dirs ≡ walk.dirs → end.dirs ≡ code.dirs
        → AreSectioned ground dir walk (files_read read) tied found → EndsSo ground dir tied now
        → by_way levels end now found (files_at (ground_in levels merges ground) end)
    sections_later levels end walk tied found now none kind dirs same are ends =
        let own = ground_in levels merges ground in
        let files = files_left read no_files (wanted_by ground.config.now ground.host end.dirs) in
        subst (by_way levels end now found)
        (sym (way_to levels end same ∙ ap (λ given. way_by given files) none))
        (subst (λ (candidates : List Candidate). AreBranches (PlaceFits ground.client)
        (and_then (sections_plan merges (scene_with own (held looked 0)) [] [] [] candidates)
        (λ kept. where_of own dir (settings_at own end kept))) now found)
        (sym (left_ordered read ground.config.now ground.host end.dirs)) (are levels end now kind dirs ends))

  -- What is found where the name leads to it, or doesn't.
  module _ (code : End) (tied : Tied) (set : Automaton) (are : Accepts set (exact_of code)) (given : Option Tied)
      (is : IsNamed tied set given) (found : List Place) where
    abbrev pub Led : Option Tied → Type 0
    Led None = found ≡ []
    Led (Some own) = (levels : ℕ) (end : WalkEnd) (now : AbsState) → end.kind ≡ code.kind → end.dirs ≡ code.dirs
        → EndsSo ground dir own now
        → AreBranches (PlaceFits ground.client)
        (files_left_at (ground_in levels merges ground) dir end (files_at (ground_in levels merges ground) end)) now found

    later : (own : Option Tied) → Led own → (state : AbsState) (rests : Rests ground.client tied state) (levels : ℕ)
        (end : WalkEnd) → end.kind ≡ code.kind → end.dirs ≡ code.dirs
        → Later ground dir tied state rests levels end found own
    later None none state rests levels end kind dirs = none
    later (Some own) led state rests levels end kind dirs = λ now ends. led levels end now kind dirs ends

    pub end_led : Led given → IsAtEnd ground dir tied code found
    end_led led levels end state alike kind dirs rests =
        at_this_end ground dir tied state rests levels end found set is.0
        (λ x bytes. alike x bytes ∙ sym (are x bytes)) is.2
        (subst (Later ground dir tied state rests levels end found) is.1
        (later given led state rests levels end kind dirs))

  -- ---- all ends

  pub one_end_more : (tied : Tied) (ends : List End) (end : End) (found more after : List Place)
      → AreAtEndsIn ground dir tied ends found → after ≡ found ++ more → IsAtEnd ground dir tied end more
      → AreAtEndsIn ground dir tied (ends ++ end ∷ []) after
  one_end_more tied [] end found more after are added is =
      (more, [], added ∙ ap (λ found. found ++ more) are ∙ sym (append-nil more), is, refl)
  one_end_more tied (first ∷ ends) end found more after are added is = (
    are.0,
    are.1 ++ more,
    added ∙ ap (λ found. found ++ more) are.2 ∙ append_assoc are.0 are.1 more,
    are.3,
    one_end_more tied ends end are.1 more (are.1 ++ more) are.4 refl is,
  )

  module _ (levels : ℕ) (tied : Tied) (state : AbsState) (rests : Rests ground.client tied state) where
    abbrev At : List WalkEnd → List Place → Type 0
    At ends found = (branches : List (Branch Settings)) × AreAtEnds (ground_in levels merges ground) dir state ends branches
        × AllFit (PlaceFits ground.client) found branches

    all_ends : (codes : List End) (ends : List WalkEnd) (found : List Place) → AllFit (IsEnd root) codes ends
        → AreAtEndsIn ground dir tied codes found → At ends found
    all_ends [] ends found fit are =
        subst (λ ends. At ends found) (sym fit) (subst (At []) (sym are) ([], refl, refl))
    all_ends (code ∷ codes) ends found fit are =
        let one = are.3 levels fit.0 state (λ x bytes. exact_alike code fit.0 fit.3 x) (fit.3).kind (fit.3).dirs rests in
        let more = all_ends codes fit.1 are.1 fit.4 are.4 in
        subst (λ ends. At ends found) (sym fit.2)
        (subst (At (fit.0 ∷ fit.1)) (sym are.2) (
          one.0 ++ more.0,
          (one.0, more.0, refl, one.1, more.1),
          both_fit (PlaceFits ground.client) are.0 are.1 one.0 more.0 one.2 more.2,
        ))

  pub places_are : (tied : Tied) (ends : List End) (found : List Place) → IsSeen (shown_in ground)
      → AreEnds (shown_in ground) ends → AreAtEndsIn ground dir tied ends found → ArePlaces ground dir tied found
  places_are tied ends found seen are all levels state listed rests =
      all_ends levels tied state rests ends (ends_in levels (shown_in ground) at_root) found
      (subst (λ codes. AllFit (IsEnd root) codes (ends_in levels (shown_in ground) at_root)) (sym (are levels listed))
      (root_fit levels (shown_in ground) listed seen)) all
