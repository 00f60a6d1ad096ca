-- What is found where conditions are tried are the branches of their plans.
use Rattle.hc_abs_rw.proofs.Common.{◌≡◌, ◌∙◌, ℕ, List, [], ◌∷◌, ◌++◌, Bool, true, false, not, Option, None, Some, refl}
use Rattle.hc_abs_rw.proofs.Common.{sym, ap, subst, Plan, done, pick, append_assoc, append-nil}
use Rattle.std.proofs.Common.{Bor}
use Rattle.std.specs.Option.{option_map}
use Rattle.std.specs.declared.alloc.Global.{Global}
use Rattle.std.specs.declared.rc.Rc.{Rc}
use Rattle.hc_addr.specs.declared.addr.Addr.{Addr}
use Rattle.hc_cells.specs.Cells.{Sets}
use Rattle.hc_dfa.specs.Automata.{Automaton}
use Rattle.hc_dfa.specs.Texts.{IsText, TextSet}
use Rattle.hc_model.specs.declared.event.Decision.{Decision}
use Rattle.hc_model.specs.declared.event.Decision.TheVariants as decision
use Rattle.hc_model.specs.declared.rewrite.Cond.{Cond}
use Rattle.hc_model.specs.declared.rewrite.CondKind.{CondKind}
use Rattle.hc_model.specs.declared.rewrite.CondKind.TheVariants.{Equals, IsDir, IsFile, Search}
use Rattle.hc_pattern.specs.Pattern.{Pattern, pattern_of}
use Rattle.hc_pattern.specs.declared.pat.Pat.{Pat}
use Rattle.hc_plan.proofs.Coded.{Follows, Keeps, end_fits, look_fits, put_down_fits, test_fits}
use Rattle.hc_plan.specs.Branches.{finds, found_in, others, without_texts}
use Rattle.hc_plan.specs.Coded.{AreBranches, IsNext}
use Rattle.hc_plan.specs.Hands.{cell_of}
use Rattle.hc_plan.specs.Plan.{look_for, test}
use Rattle.hc_plan.specs.States.{AbsState, this}
use Rattle.hc_plan.specs.Ways.{Stands, on}
use Rattle.hc_plan.specs.declared.hand.Element.{Element}
use Rattle.hc_plan.specs.declared.hand.Way.{Way}
use Rattle.hc_plan.specs.declared.held.Found.{Found}
use Rattle.hc_abs_rw.specs.Conditions.{Tried, cond_plan, counted_set, decided, test_by, tried, unless_held}
use Rattle.hc_abs_rw.specs.Conditions.{while_held}
use Rattle.hc_abs_rw.specs.Elements.{AreExpanded}
use Rattle.hc_abs_rw.specs.Frames.{Frame}
use Rattle.hc_abs_rw.specs.Known.{Fits, FoundFits, Holds, shown}
use Rattle.hc_abs_rw.specs.Templates.{cond_groups, main}
use Rattle.hc_abs_rw.specs.Trials.{AddsLeft, AddsTried, AreWays, CondsLeft, IsHeld, IsLeft, IsTried, IsTriedBy, LeftOn, TrialFits}
use Rattle.hc_abs_rw.specs.Trials.{cond_set}
use Rattle.hc_abs_rw.specs.Trials.{grouping, grouping_by}
use Rattle.hc_abs_rw.specs.declared.conds.Trial.{Trial}
use Rattle.hc_abs_rw.specs.declared.known.Known.{Known}
use Rattle.hc_abs_rw.specs.declared.ways.Ways.{Ways}
use Rattle.hc_abs_rw.proofs.Expanded.{Ready, expand_fits, ready_stands}
use Rattle.hc_abs_rw.proofs.Knowing.{held_fits, kept}

-- ---- what is asked

not_not : (v : Bool) → not (not v) ≡ v
not_not true = refl
not_not false = refl

-- A test by a set, its negation counted, is one by what the automaton says on that side.
pub asked_on : (negated : Bool) (set found : TextSet) (x : List ℕ) → found x ≡ set x
    → counted_set negated set x ≡ on (not negated) found x
asked_on true set found x is = ap not (sym is)
asked_on false set found x is = sym is

pub apart_on : (negated : Bool) (set found : TextSet) (x : List ℕ) → found x ≡ set x
    → not (counted_set negated set x) ≡ on negated found x
apart_on true set found x is = not_not (set x) ∙ sym is
apart_on false set found x is = ap not (sym is)

-- ---- the plan of a test

tests_by : (frame : Frame) {A : Type 0} (kind : CondKind) (negated nocase : Bool) (plan : Bool → Plan A)
    → grouping_by kind negated ≡ None
    → test_by frame kind negated nocase plan ≡ test main (counted_set negated (cond_set frame kind nocase)) plan
tests_by frame (Search pattern) true nocase plan is = refl
tests_by frame (Search pattern) false nocase plan is = absurd (let none = is in cc)
tests_by frame (Equals wanted) negated nocase plan is = refl
tests_by frame IsFile negated nocase plan is = refl
tests_by frame IsDir negated nocase plan is = refl

-- A pattern whose groups are left.
record Looks (frame : Frame) {A : Type 0} (kind : CondKind) (negated nocase : Bool) (pattern : Pattern)
    (plan : Bool → Plan A) :
    Type 0 where
  is : test_by frame kind negated nocase plan ≡ look_for cond_groups pattern main plan
  set : counted_set negated (cond_set frame kind nocase) ≡ finds pattern

looks_by : (frame : Frame) {A : Type 0} (kind : CondKind) (negated nocase : Bool) (pattern : Pattern)
    (plan : Bool → Plan A) → grouping_by kind negated ≡ Some pattern → Looks frame kind negated nocase pattern plan
looks_by frame (Search own) true nocase pattern plan is = absurd (let none = is in cc)
looks_by frame {A} (Search own) false nocase pattern plan is =
    subst (λ pattern. Looks frame (Search own) false nocase pattern plan) (own_is is) (record { is = refl; set = refl })
  where
    pattern_in : Option Pattern → Pattern
    pattern_in None = own
    pattern_in (Some pattern) = pattern

    own_is : Some own ≡ Some pattern → own ≡ pattern
    own_is is = ap pattern_in is
looks_by frame (Equals wanted) negated nocase pattern plan is = absurd (let none = is in cc)
looks_by frame IsFile negated nocase pattern plan is = absurd (let none = is in cc)
looks_by frame IsDir negated nocase pattern plan is = absurd (let none = is in cc)

-- ---- one condition

module _ (cond : Cond) (before : Trial) (held : Bool) (groups : Option Pattern) (elements : List Element)
    (earlier later : List Trial) where
  pub adds_none : (way : Option Way) → way ≡ None → later ≡ earlier → AddsLeft cond before held groups elements way earlier later
  adds_none way none same =
      subst (λ way. AddsLeft cond before held groups elements way earlier later) (sym none)
      ([], same ∙ sym (append-nil earlier), refl)

  pub adds_one : (way : Option Way) (one : Way) (left : Trial) → way ≡ Some one → later ≡ earlier ++ left ∷ []
      → IsLeft cond before held groups elements one left → AddsLeft cond before held groups elements way earlier later
  adds_one way one left some is left_so =
      subst (λ way. AddsLeft cond before held groups elements way earlier later) (sym some)
      (left ∷ [], is, (left, refl, left_so))

-- What `%0` to `%9` hold, by whether the condition has groups to leave.
module _ (cond : Cond) (before : Known) (elements : List Element) (sets : Sets) (side : Option Automaton)
    (own : Option (Bor Pat)) (is : option_map (λ pattern. pattern_of pattern.now) own ≡ grouping cond)
    (held : Option (Rc Found Global)) where
  pub conds_kept : own ≡ None → shown held ≡ shown before.cond_groups → CondsLeft (grouping cond) before elements sets side held
  conds_kept none same =
      subst (λ groups. CondsLeft groups before elements sets side held)
      (sym (ap (option_map (λ pattern. pattern_of pattern.now)) none) ∙ is) same

  pub conds_new : (pattern : Bor Pat) → own ≡ Some pattern → IsHeld (pattern_of pattern.now) sets elements 0 side held
      → CondsLeft (grouping cond) before elements sets side held
  conds_new pattern some holds =
      subst (λ groups. CondsLeft groups before elements sets side held)
      (sym (ap (option_map (λ pattern. pattern_of pattern.now)) some) ∙ is) holds

module _ (client : Option Addr) (cond : Cond) (before : Trial) (elements : List Element) (way : Way)
    (left : Trial) (held : Bool) (set : TextSet) (state now : AbsState)
    (stands : Stands way.cell before.known.ties elements 0 way.side now main) (keeps : Keeps state main set now)
    (holds : Holds client before.known state) (looked : state.given.third ≡ λ at. this []) where
  -- Nothing more is held than before.
  left_fits : IsLeft cond before held None elements way left → Fits client left.known (without_texts now)
  left_fits is =
      let later = kept client before.known state now main set holds keeps in
      record {
        cell = stands.holds ∙ ap cell_of (sym is.cell);
        ties = stands.tied ∙ sym is.ties;
        holds = record {
          groups = subst (λ found. FoundFits found now.given.first) (sym is.groups_left) later.groups;
          conds = subst (λ found. FoundFits found now.given.second) (sym is.conds) later.conds;
          printed = later.printed;
        };
        looked = ap (λ given. given.third) keeps.given ∙ looked;
      }

  -- The groups of a pattern that was found are held.
  found_left : (pattern : Pattern) → IsLeft cond before held (Some pattern) elements way left
      → Fits client left.known (without_texts (found_in now cond_groups pattern main))
  found_left pattern is =
      let later = kept client before.known state now main set holds keeps in
      record {
        cell = stands.holds ∙ ap cell_of (sym is.cell);
        ties = stands.tied ∙ sym is.ties;
        holds = record {
          groups = subst (λ found. FoundFits found now.given.first) (sym is.groups_left) later.groups;
          conds = held_fits left.known.cond_groups pattern way.cell elements 0 way.side now.cell (pick now.texts main)
              stands.holds stands.hand is.conds;
          printed = later.printed;
        };
        looked = ap (λ given. given.third) keeps.given ∙ looked;
      }

module _ (frame : Frame) (client : Option Addr) (cond : Cond) (before : Trial) (elements : List Element) (found : TextSet)
    (means : (x : List ℕ) → IsText x → found x ≡ cond_set frame cond.kind cond.nocase x) (ways : Ways)
    (are : AreWays before.known.cell before.known.ties elements 0 None cond.negated found ways) (first rest : List Trial)
    (is_first : LeftOn cond before true (grouping cond) elements ways.held first)
    (is_rest : LeftOn cond before false None elements ways.failed rest) (so_far : List Decision)
    (same : so_far ≡ before.decisions) (state : AbsState) (ready : Ready client before.known elements state) where
  abbrev Ends : AbsState → List Trial → Bool → Type 0
  Ends now found held = AreBranches (TrialFits client) (decided cond so_far held) now found

  ends : (left : Trial) (held : Bool) (groups : Option Pattern) (way : Way) (now : AbsState)
      → IsLeft cond before held groups elements way left → Fits client left.known (without_texts now)
      → Ends now (left ∷ []) held
  ends left held groups way now is fits =
      let end = tried (so_far ++ decision.Cond cond.place held ∷ []) held in
      put_down_fits (TrialFits client) now (done end) (left ∷ [])
      (end_fits (TrialFits client) (without_texts now) end left (record {
        known = fits;
        decisions = ap (λ decisions. decisions ++ decision.Cond cond.place held ∷ []) same ∙ sym is.decisions;
        holds = sym is.holds;
      }))

  stands : Stands before.known.cell before.known.ties elements 0 None state main
  stands = ready_stands client before.known elements state ready

  abbrev After : (AbsState → AbsState) → TextSet → Bool → Option Way → List Trial → Type 0
  After after asked held way left = Follows (TrialFits client) before.known.cell before.known.ties elements 0 None state
      main stands after asked (decided cond so_far held) way left

  plain_after : (asked : TextSet) (held : Bool) (way : Option Way) (left : List Trial)
      → LeftOn cond before held None elements way left → After (λ now. now) asked held way left
  plain_after asked held None left is = is
  plain_after asked held (Some way) left is = λ now stands keeps.
      subst (λ left. Ends now left held) (sym is.1)
      (ends is.0 held None way now is.2
      (left_fits client cond before elements way is.0 held asked state now stands keeps ready.fits.holds ready.fits.looked is.2))

  found_after : (asked : TextSet) (pattern : Pattern) (way : Option Way) (left : List Trial)
      → LeftOn cond before true (Some pattern) elements way left
      → After (λ now. found_in now cond_groups pattern main) asked true way left
  found_after asked pattern None left is = is
  found_after asked pattern (Some way) left is = λ now stands keeps.
      subst (λ left. Ends (found_in now cond_groups pattern main) left true) (sym is.1)
      (ends is.0 true (Some pattern) way (found_in now cond_groups pattern main) is.2
      (found_left client cond before elements way is.0 true asked state now stands keeps ready.fits.holds ready.fits.looked
      pattern is.2))

  test_plan : AreBranches (TrialFits client)
      (test_by frame cond.kind cond.negated cond.nocase (decided cond so_far)) state (first ++ rest)
  test_plan = by (grouping cond) refl is_first
    where
      set : TextSet
      set = cond_set frame cond.kind cond.nocase

      by : (groups : Option Pattern) → grouping cond ≡ groups → LeftOn cond before true groups elements ways.held first
          → AreBranches (TrialFits client)
          (test_by frame cond.kind cond.negated cond.nocase (decided cond so_far)) state (first ++ rest)
      by None is left =
          subst (λ plan. AreBranches (TrialFits client) plan state (first ++ rest))
          (sym (tests_by frame cond.kind cond.negated cond.nocase (decided cond so_far) is))
          (test_fits (TrialFits client) before.known.cell before.known.ties elements 0 None state main stands
          (counted_set cond.negated set) (on (not cond.negated) found) (on cond.negated found) (decided cond so_far)
          ways.held ways.failed first rest (λ x text. asked_on cond.negated set found x (means x text))
          (λ x text. apart_on cond.negated set found x (means x text)) are.0 are.1
          (plain_after (others (counted_set cond.negated set)) false ways.failed rest is_rest)
          (plain_after (counted_set cond.negated set) true ways.held first left))
      by (Some pattern) is left =
          let looks = looks_by frame cond.kind cond.negated cond.nocase pattern (decided cond so_far) is in
          subst (λ plan. AreBranches (TrialFits client) plan state (first ++ rest)) (sym looks.is)
          (look_fits (TrialFits client) before.known.cell before.known.ties elements 0 None state main stands
          (counted_set cond.negated set) (on (not cond.negated) found) (on cond.negated found) (decided cond so_far)
          ways.held ways.failed first rest (λ x text. asked_on cond.negated set found x (means x text))
          (λ x text. apart_on cond.negated set found x (means x text)) are.0 are.1
          (plain_after (others (counted_set cond.negated set)) false ways.failed rest is_rest) cond_groups pattern looks.set
          (found_after (counted_set cond.negated set) pattern ways.held first left))

-- What follows a condition, on both of its ways.
pub tried_fits : (frame : Frame) (client : Option Addr) (cond : Cond) (before : Trial) (elements : List Element)
    (found : TextSet) (ways : Ways) (first rest : List Trial)
    → AreExpanded frame client before.known cond.test elements
    → ((x : List ℕ) → IsText x → found x ≡ cond_set frame cond.kind cond.nocase x)
    → AreWays before.known.cell before.known.ties elements 0 None cond.negated found ways
    → LeftOn cond before true (grouping cond) elements ways.held first
    → LeftOn cond before false None elements ways.failed rest → IsTried frame client cond before (first ++ rest)
unfolding cond_plan
tried_fits frame client cond before elements found ways first rest expanded means are is_first is_rest =
    λ branch fits.
    expand_fits (TrialFits client) frame client before.known (first ++ rest) cond.test elements
    (test_by frame cond.kind cond.negated cond.nocase (decided cond branch.1.decisions)) branch.0 fits.known expanded
    (λ now ready.
    test_plan frame client cond before elements found means ways are first rest is_first is_rest branch.1.decisions
    fits.decisions now ready)

pub tried_adds : (frame : Frame) (client : Option Addr) (cond : Cond) (before : Trial) (elements : List Element)
    (found : TextSet) (ways : Ways) (earlier mid later : List Trial)
    → AreExpanded frame client before.known cond.test elements
    → ((x : List ℕ) → IsText x → found x ≡ cond_set frame cond.kind cond.nocase x)
    → AreWays before.known.cell before.known.ties elements 0 None cond.negated found ways
    → AddsLeft cond before true (grouping cond) elements ways.held earlier mid
    → AddsLeft cond before false None elements ways.failed mid later → AddsTried frame client cond before earlier later
tried_adds frame client cond before elements found ways earlier mid later expanded means are first rest = (
  first.0 ++ rest.0,
  rest.1 ∙ ap (λ so_far. so_far ++ rest.0) first.1 ∙ append_assoc earlier first.0 rest.0,
  tried_fits frame client cond before elements found ways first.0 rest.0 expanded means are first.2 rest.2,
)

-- ---- what was found so far

module _ (client : Option Addr) (further : List Decision → Plan Tried) (trial : Trial) where
  by_branch : (on : (List Decision → Plan Tried) → Tried → Plan Tried) (next : Tried → Plan Tried) (held : Bool)
      (found : List Trial) → ((tried : Tried) → tried.holds ≡ held → on further tried ≡ next tried)
      → trial.holds ≡ held → IsNext (TrialFits client) (TrialFits client) next trial found
      → IsNext (TrialFits client) (TrialFits client) (on further) trial found
  by_branch on next held found same is more = λ branch fits.
      subst (λ plan. AreBranches (TrialFits client) plan branch.0 found)
      (sym (same branch.1 (fits.holds ∙ is))) (more branch fits)

  stays : IsNext (TrialFits client) (TrialFits client) (λ tried. done tried) trial (trial ∷ [])
  stays = λ branch fits. end_fits (TrialFits client) branch.0 branch.1 trial fits

  -- Where one holds already the next isn't tried, and where it doesn't it is.
  pub held_stays : trial.holds ≡ true
      → IsNext (TrialFits client) (TrialFits client) (unless_held further) trial (trial ∷ [])
  held_stays is =
      by_branch unless_held (λ tried. done tried) true (trial ∷ [])
      (λ tried is. ap (λ held. elim held [ true ↦ done tried | false ↦ further tried.decisions ]) is) is stays

  pub failed_goes_on : (found : List Trial) → trial.holds ≡ false → IsTriedBy client further trial found
      → IsNext (TrialFits client) (TrialFits client) (unless_held further) trial found
  failed_goes_on found is =
      by_branch unless_held (λ tried. further tried.decisions) false found
      (λ tried is. ap (λ held. elim held [ true ↦ done tried | false ↦ further tried.decisions ]) is) is

  -- And the other way round.
  pub failed_stays : trial.holds ≡ false
      → IsNext (TrialFits client) (TrialFits client) (while_held further) trial (trial ∷ [])
  failed_stays is =
      by_branch while_held (λ tried. done tried) false (trial ∷ [])
      (λ tried is. ap (λ held. elim held [ true ↦ further tried.decisions | false ↦ done tried ]) is) is stays

  pub held_goes_on : (found : List Trial) → trial.holds ≡ true → IsTriedBy client further trial found
      → IsNext (TrialFits client) (TrialFits client) (while_held further) trial found
  held_goes_on found is =
      by_branch while_held (λ tried. further tried.decisions) true found
      (λ tried is. ap (λ held. elim held [ true ↦ further tried.decisions | false ↦ done tried ]) is) is
