-- The test of an entry: what it leaves where it takes the path, and where it doesn't.
use Rattle.hc_abs_map.proofs.Common.{◌≡◌, ◌∙◌, ℕ, List, [], ◌∷◌, ◌++◌, Bool, true, false, not, Option, None, Some, refl, sym}
use Rattle.hc_abs_map.proofs.Common.{ap, subst, inl, Plan, Slot, pick, place}
use Rattle.hc_addr.specs.declared.addr.Addr.{Addr}
use Rattle.hc_dfa.specs.Automata.{accepts}
use Rattle.hc_dfa.specs.Texts.{IsText, TextSet}
use Rattle.hc_alias.specs.Tests.{is_below}
use Rattle.hc_model.specs.declared.mapping.PathTest.{PathTest}
use Rattle.hc_model.specs.declared.mapping.PathTest.TheVariants.{Prefix, Search}
use Rattle.hc_pattern.specs.Pattern.{Pattern}
use Rattle.hc_plan.proofs.Coded.{Follows, Keeps, look_fits, take_up_fits, test_fits}
use Rattle.hc_plan.specs.Branches.{Branch, finds, found_in, others}
use Rattle.hc_plan.specs.Coded.{AreBranches}
use Rattle.hc_plan.specs.Hands.{cell_of, parts_of}
use Rattle.hc_plan.specs.Plan.{take_up}
use Rattle.hc_plan.specs.States.{AbsState, open_slot, this, whole, with_text}
use Rattle.hc_plan.specs.Texts.{all_three}
use Rattle.hc_plan.specs.Ways.{Stands, on}
use Rattle.hc_plan.specs.declared.hand.Element.{Element}
use Rattle.hc_plan.specs.declared.hand.Way.{Way}
use Rattle.hc_plan.specs.declared.storing.Tied.{Tied}
use Rattle.hc_abs_rw.specs.Templates.{groups, main, slot_item}
use Rattle.hc_abs_rw.specs.declared.ways.Ways.{Ways}
use Rattle.hc_abs_pass.specs.Ends.{EndsAt}
use Rattle.hc_abs_pass.specs.Mapping.{taken}
use Rattle.hc_abs_map.specs.Along.{AreOn}
use Rattle.hc_abs_map.specs.Entries.{AreTaken, HoldsGroups, OnTaken, path_alone, takes, tied_on}

-- Elements in hand, of which no test was made.
pub elements_stand : (tied : Tied) (elements : List Element) (state : AbsState) → state.cell ≡ cell_of tied.cell
    → state.ties ≡ tied.ties
    → Stands tied.cell tied.ties elements 0 None (with_text state main (whole (parts_of elements))) main
elements_stand tied elements state cell ties = record {
  holds = cell;
  tied = ties;
  hand = record { made = refl; behind = refl; lies = inl (λ x bytes. refl) };
}

module _ {A B : Type 0} (Fit : Option Addr → B → Branch A → Type 0) (client : Option Addr) (test : PathTest)
    (tied : Tied) (ways : Ways) (are : AreTaken test tied ways) (state : AbsState) (ends : EndsAt client tied state)
    (plan : Bool → Plan A) (first rest : List B) where
  abbrev ready : AbsState
  ready = with_text state main (whole (parts_of path_alone))

  abbrev stands : Stands tied.cell tied.ties path_alone 0 None ready main
  stands = elements_stand tied path_alone state ends.cell ends.ties

  abbrev After : (AbsState → AbsState) → TextSet → Plan A → Option Way → List B → Type 0
  After after asked plan = Follows (Fit client) tied.cell tied.ties path_alone 0 None ready main stands after asked plan

  untaken : (asked : TextSet) (way : Option Way) → AreOn Fit (tied_on tied.ties way) (plan false) rest
      → After (λ now. now) asked (plan false) way rest
  untaken asked None none = none
  untaken asked (Some way) found = λ now is keeps. found client now (record {
    cell = is.holds;
    ties = is.tied;
    given = keeps.given ∙ ends.given;
    printed = keeps.printed ∙ ends.printed;
  })

  emptied : (asked : TextSet) (now : AbsState) → Keeps ready main asked now
      → place groups (λ at. this []) now.given ≡ all_three (λ at. this [])
  emptied asked now keeps = ap (λ given. place groups (λ at. this []) given) (keeps.given ∙ ends.given)

  below : (from : List ℕ) → test ≡ Prefix from → (asked : TextSet) (way : Option Way) → OnTaken Fit test tied.ties (plan true) way first
      → After (λ now. now) asked (plan true) way first
  below from same asked None none = none
  below from same asked (Some way) found = λ now is keeps. found client now (record {
    cell = is.holds;
    ties_are = is.tied;
    others = emptied asked now keeps;
    printed = keeps.printed ∙ ends.printed;
    holds = subst (λ test. HoldsGroups test way now) (sym same) tt;
  })

  searched : (pattern : Pattern) → test ≡ Search pattern → (asked : TextSet) (way : Option Way) → OnTaken Fit test tied.ties (plan true) way first
      → After (λ now. found_in now groups pattern main) asked (plan true) way first
  searched pattern same asked None none = none
  searched pattern same asked (Some way) found = λ now is keeps. found client (found_in now groups pattern main) (record {
    cell = is.holds;
    ties_are = is.tied;
    others = emptied asked now keeps;
    printed = keeps.printed ∙ ends.printed;
    holds =
        subst (λ test. HoldsGroups test way (found_in now groups pattern main)) (sym same)
        (pick now.texts main, is.hand, refl);
  })

  -- The branches of both ways.
  pub entry_fits : OnTaken Fit test tied.ties (plan true) ways.held first → AreOn Fit (tied_on tied.ties ways.failed) (plan false) rest
      → AreBranches (Fit client) (take_up main (slot_item Slot.Path ∷ []) (taken test plan)) state (first ++ rest)
  entry_fits on_held on_failed =
      take_up_fits (Fit client) state main (slot_item Slot.Path ∷ []) (parts_of path_alone) (taken test plan)
      (first ++ rest) (open_slot Slot.Path 0, [], refl, refl, refl) (by test refl)
    where
      set : TextSet
      set = accepts are.0

      means : (own : PathTest) → test ≡ own → (x : List ℕ) → IsText x → takes own x ≡ set x
      means own same x bytes = ap (λ test. takes test x) (sym same) ∙ sym (are.1 x bytes)

      by : (own : PathTest) → test ≡ own → AreBranches (Fit client) (taken own plan) ready (first ++ rest)
      by (Prefix from) same =
          test_fits (Fit client) tied.cell tied.ties path_alone 0 None ready main stands (is_below from) (on true set)
          (on false set) plan ways.held ways.failed first rest (means (Prefix from) same)
          (λ x bytes. ap not (means (Prefix from) same x bytes)) are.2.0 are.2.1
          (untaken (others (is_below from)) ways.failed on_failed) (below from same (is_below from) ways.held on_held)
      by (Search pattern) same =
          look_fits (Fit client) tied.cell tied.ties path_alone 0 None ready main stands (finds pattern) (on true set)
          (on false set) plan ways.held ways.failed first rest (means (Search pattern) same)
          (λ x bytes. ap not (means (Search pattern) same x bytes)) are.2.0 are.2.1
          (untaken (others (finds pattern)) ways.failed on_failed) groups pattern refl
          (searched pattern same (finds pattern) ways.held on_held)
