-- Sections one after the other: what is left of them leads to the whole.
use Rattle.std.proofs.Common.{◌≡◌, ◌∙◌, ℕ, suc, List, [], ◌∷◌, ◌++◌, length, Bool, true, false, ◌&&◌, Option, None, Some}
use Rattle.std.proofs.Common.{refl, sym, ap, append-nil, subst, arith}
use Rattle.std.specs.Option.{option_map}
use Rattle.hc_merge.specs.Candidates.{Candidate}
use Rattle.hc_merge.specs.Reaching.{Chain, chain_behind, holds_at, resolved}
use Rattle.hc_model.specs.declared.section.Reach.{Reach}
use Rattle.hc_model.specs.declared.section.Reach.TheVariants.{Dir, DirSearch, Files, Location, LocationGlob}
use Rattle.hc_model.specs.declared.section.Reach.TheVariants.{LocationSearch, Otherwise, When}
use Rattle.hc_plan.proofs.Coded.{end_fits, joined_fits, next_joined, put_down_fits}
use Rattle.hc_plan.specs.Branches.{Branch, without_texts}
use Rattle.hc_plan.specs.Coded.{AreBranches, AreNext}
use Rattle.hc_plan.specs.Plan.{Plan, and_then, done, put_down}
use Rattle.hc_plan.specs.States.{AbsState, Given}
use Rattle.hc_plan.specs.Texts.{Three}
use Rattle.hc_plan.specs.declared.storing.Tied.{Tied}
use Rattle.hc_abs_pass.specs.Sections.{if_so, reach_plan, section_plan, sections_plan, tested_where}
use Rattle.hc_abs_pass.specs.Views.{Scene}
use Rattle.hc_abs_view.proofs.Natural.{ways_then}
use Rattle.hc_abs_view.specs.Viewing.{SeenAt, scene_of}
use Rattle.hc_abs_view.specs.declared.scene.Scene.{Scene as LentScene}
use Rattle.hc_abs_force.specs.Asking.{Question, question_of, question_plan, question_where}
use Rattle.hc_abs_force.specs.Forcing.{AreForced, ForcedFits, marked}
use Rattle.hc_abs_force.specs.Marking.{AnswersFor, AreAlone, AreTried, IsAlone, IsTried, IsTriedWhere, MarkFits}
use Rattle.hc_abs_force.specs.Merging.{merges}
use Rattle.hc_abs_force.specs.Steps.{ArePast, IsPast, Standing, StandFits, rest_plan, step_plan, with_mark}
use Rattle.hc_abs_force.specs.declared.forcing.Forced.{Forced}
use Rattle.hc_abs_force.proofs.Answering.{put_fits, seen_bare}
use Rattle.hc_abs_force.proofs.Each.{each_next}

-- ---- plans

-- What follows a section by whether it applies.
module _ {A B : Type 0} (scene : Scene) (next : A → Plan B) where
  reach_then : (reach : Reach) (plan : Bool → Plan A)
      → and_then (reach_plan scene reach plan) next ≡ reach_plan scene reach (λ is. and_then (plan is) next)
  unfolding and_then
  reach_then (Dir pattern) plan = refl
  reach_then (DirSearch pattern) plan = refl
  reach_then (Files pattern) plan = refl
  reach_then (Location path) plan = refl
  reach_then (LocationGlob pattern) plan = refl
  reach_then (LocationSearch pattern) plan = refl
  reach_then (When expr) plan = ways_then A B scene expr false plan next
  reach_then (Otherwise expr) plan = ways_then A B scene expr false plan next

  where_then : (is : Bool) (reach : Reach) (plan : Bool → Plan A)
      → and_then (tested_where is scene reach plan) next ≡ tested_where is scene reach (λ is. and_then (plan is) next)
  unfolding and_then
  where_then true reach plan = reach_then reach plan
  where_then false reach plan = refl

  section_then : (marks : List Bool) (candidate : Candidate) (reach : Option Reach) (plan : Bool → Plan A)
      → and_then (section_plan merges scene marks candidate reach plan) next
      ≡ section_plan merges scene marks candidate reach (λ is. and_then (plan is) next)
  unfolding and_then
  section_then marks candidate None plan = refl
  section_then marks candidate (Some reach) plan =
      where_then (merges candidate.body && holds_at marks candidate.parent) reach plan

-- By what it asks, and whether the section around it applies.
module _ {A : Type 0} (scene : Scene) (plan : Bool → Plan A) where
  asks : (reach : Reach) → question_plan scene (question_of reach) plan ≡ reach_plan scene reach plan
  asks (Dir pattern) = refl
  asks (DirSearch pattern) = refl
  asks (Files pattern) = refl
  asks (Location path) = refl
  asks (LocationGlob pattern) = refl
  asks (LocationSearch pattern) = refl
  asks (When expr) = refl
  asks (Otherwise expr) = refl

  abbrev Asked : Question → Bool → Plan A
  Asked question holds = elim holds [ true ↦ question_plan scene question plan | false ↦ put_down (plan false) ]

  asked_where : (does holds : Bool) (reach : Reach)
      → Asked (question_where does reach) holds ≡ tested_where (does && holds) scene reach plan
  asked_where true true reach = asks reach
  asked_where true false reach = refl
  asked_where false true reach = refl
  asked_where false false reach = refl

-- ---- marks

longer : {A : Type 0} (items : List A) (item : A) → length (items ++ item ∷ []) ≡ suc (length items)
longer [] item = refl
longer (first ∷ items) item = ap suc (longer items item)

marked_more : (marks : List Bool) (before : List Candidate) (is : Bool) (candidate : Candidate)
    → length marks ≡ length before
    → marked (marks ++ is ∷ []) (before ++ candidate ∷ []) ≡ marked marks before ++ if_so merges is candidate
marked_more [] [] true candidate many = refl
marked_more [] [] false candidate many = refl
marked_more [] (first ∷ before) is candidate many = absurd (let none = many in cc)
marked_more (mark ∷ marks) [] is candidate many = absurd (let none = many in cc)
marked_more (true ∷ marks) (first ∷ before) is candidate many =
    ap (λ kept. first ∷ kept) (marked_more marks before is candidate (omega (arith, many)))
marked_more (false ∷ marks) (first ∷ before) is candidate many =
    marked_more marks before is candidate (omega (arith, many))

module _ (scene : LentScene) (given : Three (ℕ → Given)) (before : List Candidate) (candidate : Candidate) (one : Forced)
    (standing : Standing) (state : AbsState) (fits : StandFits scene given before one (state, standing)) where
  more_stands : (later : Forced) (now : AbsState) (is : Bool) → SeenAt scene given later.tied now
      → later.marks.items ≡ one.marks.items ++ is ∷ []
      → StandFits scene given (before ++ candidate ∷ []) later (now, with_mark standing candidate is)
  more_stands later now is seen more = record {
    seen = seen;
    marks = ap (λ marks. marks ++ is ∷ []) fits.marks ∙ sym more;
    kept = ap (λ kept. kept ++ if_so merges is candidate) fits.kept
        ∙ sym (marked_more one.marks.items before is candidate fits.many)
        ∙ ap (λ marks. marked marks (before ++ candidate ∷ [])) (sym more);
    many = ap length more ∙ longer one.marks.items is ∙ ap suc fits.many ∙ sym (longer before candidate);
  }

-- ---- a section

module _ (scene : LentScene) (chain : Chain) (candidate : Candidate) where
  -- One of the first group.
  pub applied_past : candidate.reach ≡ None → (one : Forced) (found : List Forced) → IsAlone one true found
      → IsPast scene chain candidate one found
  applied_past none one found is given before branch fits =
      subst (λ reach. AreBranches (StandFits scene given (before ++ candidate ∷ []))
      (section_plan merges (scene_of scene) (branch.1).marks candidate (option_map (resolved chain) reach)
      (λ is. done (with_mark branch.1 candidate is))) branch.0 found) (sym none)
      (subst (AreBranches (StandFits scene given (before ++ candidate ∷ []))
      (put_down (done (with_mark branch.1 candidate true))) branch.0) (sym is.1)
      (put_down_fits (StandFits scene given (before ++ candidate ∷ [])) branch.0
      (done (with_mark branch.1 candidate true)) (is.0 ∷ [])
      (end_fits (StandFits scene given (before ++ candidate ∷ [])) (without_texts branch.0)
      (with_mark branch.1 candidate true) is.0
      (more_stands scene given before candidate one branch.1 branch.0 fits is.0 (without_texts branch.0) true
      (subst (λ tied. SeenAt scene given tied (without_texts branch.0)) (sym is.2.0)
      (seen_bare scene given one.tied branch.0 fits.seen)) is.2.1))))

  module _ (reach : Reach) (some : candidate.reach ≡ Some reach) where
    abbrev question : Question
    question = question_where (merges candidate.body) (resolved chain reach)

    answers : (given : Three (ℕ → Given)) (one : Forced) (found : List Forced) (state : AbsState) (holds : Bool)
        → SeenAt scene given one.tied state → IsTriedWhere holds (AnswersFor scene question) one found
        → AreBranches (MarkFits scene given one.marks.items)
        (Asked (scene_of scene) (λ is. done is) question holds) state found
    answers given one found state true seen is = is given state seen
    answers given one found state false seen is =
        subst (AreBranches (MarkFits scene given one.marks.items) (put_down (done false)) state) (sym is.1)
        (put_fits scene given one false is.0 state seen is.2)

    -- Each goes on with its mark.
    each_stands : (given : Three (ℕ → Given)) (before : List Candidate) (one : Forced) (standing : Standing)
        (state : AbsState) → StandFits scene given before one (state, standing) → (found : List Forced)
        → AreNext (MarkFits scene given one.marks.items) (StandFits scene given (before ++ candidate ∷ []))
        (λ is. done (with_mark standing candidate is)) found found
    each_stands given before one standing state fits [] = refl
    each_stands given before one standing state fits (later ∷ found) = (
      later ∷ [],
      found,
      refl,
      (λ branch mark. end_fits (StandFits scene given (before ++ candidate ∷ [])) branch.0
          (with_mark standing candidate branch.1) later
          (more_stands scene given before candidate one standing state fits later branch.0 branch.1 mark.seen mark.more)),
      each_stands given before one standing state fits found,
    )

    pub tried_past : (one : Forced) (found : List Forced)
        → IsTried (AnswersFor scene question) candidate.parent one found → IsPast scene chain candidate one found
    unfolding and_then
    tried_past one found is given before branch fits =
        let standing : Standing = branch.1 in
        let Fit : Forced → Branch Standing → Type 0 = StandFits scene given (before ++ candidate ∷ []) in
        let own : Option Reach = Some (resolved chain reach) in
        let asked = answers given one found branch.0 (holds_at one.marks.items candidate.parent) fits.seen is in
        let same : Asked (scene_of scene) (λ is. done is) question (holds_at one.marks.items candidate.parent)
        ≡ section_plan merges (scene_of scene) standing.marks candidate own (λ is. done is) =
        asked_where (scene_of scene) (λ is. done is) (merges candidate.body)
        (holds_at one.marks.items candidate.parent) (resolved chain reach)
        ∙ ap (λ marks. section_plan merges (scene_of scene) marks candidate own (λ is. done is)) (sym fits.marks) in
        subst (λ reach. AreBranches Fit (section_plan merges (scene_of scene) standing.marks candidate
        (option_map (resolved chain) reach) (λ is. done (with_mark standing candidate is))) branch.0 found) (sym some)
        (subst (λ plan. AreBranches Fit plan branch.0 found)
        (section_then (scene_of scene) (λ is. done (with_mark standing candidate is)) standing.marks candidate own
        (λ is. done is))
        (joined_fits (MarkFits scene given one.marks.items) Fit (λ is. done (with_mark standing candidate is))
        (section_plan merges (scene_of scene) standing.marks candidate own (λ is. done is)) branch.0 found found
        (subst (λ plan. AreBranches (MarkFits scene given one.marks.items) plan branch.0 found) same asked)
        (each_stands given before one standing branch.0 fits found)))

  -- ---- for all branches so far

  pub all_applied_past : candidate.reach ≡ None → (earlier later : List Forced) → AreAlone true earlier later
      → ArePast scene chain candidate earlier later
  all_applied_past none earlier later are given before =
      each_next _ (StandFits scene given before) (StandFits scene given (before ++ candidate ∷ []))
      (step_plan (scene_of scene) chain candidate)
      (λ one found is. applied_past none one found is given before) earlier later are

  pub all_tried_past : (reach : Reach) → candidate.reach ≡ Some reach → (earlier later : List Forced)
      → AreTried (AnswersFor scene (question_where (merges candidate.body) (resolved chain reach))) candidate.parent
      earlier later → ArePast scene chain candidate earlier later
  all_tried_past reach some earlier later are given before =
      each_next _ (StandFits scene given before) (StandFits scene given (before ++ candidate ∷ []))
      (step_plan (scene_of scene) chain candidate)
      (λ one found is. tried_past reach some one found is given before) earlier later are

-- ---- all sections

module _ (scene : LentScene) (all : List Candidate) where
  -- Behind some of them.
  abbrev pub InSections : List Candidate → Chain → List Candidate → List Forced → List Forced → Type 0
  InSections before chain rest forced found = (given : Three (ℕ → Given))
      → AreNext (StandFits scene given before) (ForcedFits scene given all) (rest_plan (scene_of scene) chain rest)
      forced found

  pub sections_begin : (tied : Tied) (first : Forced) (start begun found : List Forced) (chain : Chain)
      → first.tied ≡ tied → first.marks.items ≡ [] → start ≡ [] → begun ≡ start ++ first ∷ [] → chain ≡ []
      → InSections [] chain all begun found → AreForced scene all tied found
  sections_begin tied first start begun found chain same bare none push empty are given state seen =
      let in_all = subst (λ chain. AreNext (StandFits scene given []) (ForcedFits scene given all)
      (rest_plan (scene_of scene) chain all) (first ∷ []) found) empty
      (subst (λ begun. AreNext (StandFits scene given []) (ForcedFits scene given all)
      (rest_plan (scene_of scene) chain all) begun found)
      (push ∙ ap (λ front. front ++ first ∷ []) none) (are given)) in
      subst (AreBranches (ForcedFits scene given all) (sections_plan merges (scene_of scene) [] [] [] all) state)
      (sym (in_all.2 ∙ ap (λ rest. in_all.0 ++ rest) in_all.4 ∙ append-nil in_all.0))
      (in_all.3 (state, record { marks = []; kept = [] }) (record {
        seen = subst (λ tied. SeenAt scene given tied state) (sym same) seen;
        marks = sym bare;
        kept = ap (λ marks. marked marks []) (sym bare);
        many = ap length bare;
      }))

  sections_then : (chain : Chain) (candidate : Candidate) (rest : List Candidate) (standing : Standing)
      → and_then (step_plan (scene_of scene) chain candidate standing)
      (rest_plan (scene_of scene) (chain_behind chain candidate.reach) rest)
      ≡ rest_plan (scene_of scene) chain (candidate ∷ rest) standing
  unfolding and_then sections_plan
  sections_then chain candidate rest standing =
      section_then (scene_of scene) (rest_plan (scene_of scene) (chain_behind chain candidate.reach) rest) standing.marks
      candidate (option_map (resolved chain) candidate.reach) (λ is. done (with_mark standing candidate is))

  pub sections_go_on : (before rest : List Candidate) (chain : Chain) (candidate : Candidate) (forced later found : List Forced)
      → ArePast scene chain candidate forced later
      → InSections (before ++ candidate ∷ []) (chain_behind chain candidate.reach) rest later found
      → InSections before chain (candidate ∷ rest) forced found
  sections_go_on before rest chain candidate forced later found past more given =
      next_joined (StandFits scene given before) (StandFits scene given (before ++ candidate ∷ []))
      (ForcedFits scene given all) (step_plan (scene_of scene) chain candidate)
      (rest_plan (scene_of scene) (chain_behind chain candidate.reach) rest)
      (rest_plan (scene_of scene) chain (candidate ∷ rest)) (sections_then chain candidate rest) forced later found
      (past given before) (more given)

  pub sections_over : (chain : Chain) (forced : List Forced) → InSections all chain [] forced forced
  unfolding sections_plan
  sections_over chain [] given = refl
  sections_over chain (one ∷ forced) given = (
    one ∷ [],
    forced,
    refl,
    (λ branch fits. put_down_fits (ForcedFits scene given all) branch.0 (done (branch.1).kept) (one ∷ [])
        (end_fits (ForcedFits scene given all) (without_texts branch.0) (branch.1).kept one (record {
          seen = seen_bare scene given one.tied branch.0 fits.seen;
          texts = refl;
          kept = fits.kept;
        }))),
    sections_over chain forced given,
  )
