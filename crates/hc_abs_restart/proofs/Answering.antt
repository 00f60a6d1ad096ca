-- What code answers to the question whether the rules left the file name as it was, and what follows.
use Rattle.hc_abs_restart.proofs.Common.{◌≡◌, ◌∙◌, ℕ, List, [], ◌∷◌, ◌++◌, Bool, true, false, not, Option, None, Some, refl, sym}
use Rattle.hc_abs_restart.proofs.Common.{subst, inl, inr, true≢false, bytes_eq, Addr, Automaton, accepts, Accepts}
use Rattle.hc_abs_restart.proofs.Common.{IsText, and_both, and_left, and_right, is_text, text_is, cell_of}
use Rattle.hc_abs_restart.proofs.Common.{Plan, Slot, AbsState, Tied, EndsAt, done}
use Rattle.std.specs.Cmp.Lexicographic.{bytes_decides}
use Rattle.hc_cells.specs.Cells.{Sets, holds}
use Rattle.hc_dfa.specs.Built.{product_of}
use Rattle.hc_dfa.specs.Members.{IsOnly as IsOnlyMember, IsOnlyOf}
use Rattle.hc_dfa.specs.Texts.{IsEmptySet, IsLeast}
use Rattle.hc_dfa.specs.declared.products.Keep.TheVariants.{Both}
use Rattle.hc_model.specs.declared.walk.Kind.{Kind}
use Rattle.hc_plan.proofs.Coded.{both_fit, end_fits}
use Rattle.hc_plan.proofs.Slots.{name_tied}
use Rattle.hc_plan.specs.Branches.{May}
unfoldable use Rattle.hc_plan.specs.Branches.{Branches}
use Rattle.hc_plan.specs.Coded.{AllFit, AreBranches}
use Rattle.hc_plan.specs.Plan.{equal}
use Rattle.hc_plan.specs.States.{IsOnly}
use Rattle.hc_abs_pass.specs.Ends.{Left, found as is_found}
use Rattle.hc_abs_pass.specs.declared.ends.Left.TheVariants as left
unfoldable use Rattle.hc_abs_pass.specs.Restarting.{restart_plan}
use Rattle.hc_abs_map.specs.Along.{AreOn}
use Rattle.hc_abs_restart.specs.Choosing.{IsAnswer, MayBe, MaySay, OnAnswer}
use Rattle.hc_abs_restart.specs.Following.{placed_plan}
use Rattle.hc_abs_restart.specs.Restarted.{AreRestarted, RestartedFits}
use Rattle.hc_abs_restart.specs.declared.restart.Restart.{Restart}
use Rattle.hc_abs_restart.specs.declared.restart.Restarted.{Restarted}

-- ---- may the text be the file name?

module _ (before : Tied) (texts names both : Automaton) (of_text : Accepts texts (holds before.cell Slot.Text))
    (of_name : Accepts names (holds before.cell Slot.Name)) (met : Accepts both (product_of Both texts names)) where
  both_hold : (m : List ℕ) → IsText m → accepts both m ≡ true
      → (holds before.cell Slot.Text m ≡ true) × (holds before.cell Slot.Name m ≡ true)
  both_hold m bytes is =
      let of : product_of Both texts names m ≡ true = sym (met m bytes) ∙ is in (
        sym (of_text m bytes) ∙ and_left (accepts texts m) (accepts names m) of,
        sym (of_name m bytes) ∙ and_right (accepts texts m) (accepts names m) of,
      )

  pub none_same : IsEmptySet (accepts both) → IsAnswer (MaySay before true) false
  none_same none may =
      let bytes = is_text may.0 (and_left _ (holds before.cell Slot.Text may.0) may.1) in
      let text = of_text may.0 bytes ∙ and_right _ (holds before.cell Slot.Text may.0) may.1 in
      let name = of_name may.0 bytes ∙ and_right _ (holds before.cell Slot.Name may.0) may.2 in
      true≢false (sym (met may.0 bytes ∙ and_both text name) ∙ none may.0 bytes)

  pub some_same : (m : List ℕ) → IsLeast (accepts both) m → IsAnswer (MaySay before true) true
  some_same m least =
      let of = both_hold m least.bytes least.member in
      (m, and_both (text_is m least.bytes) of.0, and_both (text_is m least.bytes) of.1)

-- ---- may it be another?

module _ (sets : Sets) (slot : Slot) (m : List ℕ) where
  only_member : IsOnly (cell_of sets slot) m → IsOnlyMember (holds sets slot) m
  only_member is = record {
    bytes = is_text m (and_left _ (holds sets slot m) is.0);
    member = and_right _ (holds sets slot m) is.0;
    only = λ other bytes member. is.1 other (and_both (text_is other bytes) member);
  }

  only_text : IsOnlyMember (holds sets slot) m → IsOnly (cell_of sets slot) m
  only_text is = (
    and_both (text_is m is.bytes) is.member,
    (λ other member. is.only other (is_text other (and_left _ (holds sets slot other) member))
        (and_right _ (holds sets slot other) member)),
  )

module _ (before : Tied) where
  module _ (untied : before.ties.text_name ≡ false) where
    pub open_text : IsOnlyOf (holds before.cell Slot.Text) None → IsAnswer (MaySay before false) true
    open_text none = (
      name_tied before.ties ∙ untied,
      (λ both. none both.0 (only_member before.cell Slot.Text both.0 both.1)),
    )

    pub open_name : IsOnlyOf (holds before.cell Slot.Name) None → IsAnswer (MaySay before false) true
    open_name none = (
      name_tied before.ties ∙ untied,
      (λ both. none both.0 (only_member before.cell Slot.Name both.0 both.2)),
    )

    pub both_known : (text name : List ℕ) (is : Bool) → IsOnlyMember (holds before.cell Slot.Text) text
        → IsOnlyMember (holds before.cell Slot.Name) name → is ≡ not (bytes_eq text name)
        → IsAnswer (MaySay before false) is
    both_known text name is of_text of_name answer =
        subst (IsAnswer (MaySay before false)) (sym answer) (by (bytes_eq text name) refl)
      where
        one : IsOnly (cell_of before.cell Slot.Text) text
        one = only_text before.cell Slot.Text text of_text

        other : IsOnly (cell_of before.cell Slot.Name) name
        other = only_text before.cell Slot.Name name of_name

        by : (same : Bool) → bytes_eq text name ≡ same → IsAnswer (MaySay before false) (not same)
        by true same = λ may. may.1 (
          text,
          one,
          subst (IsOnly (cell_of before.cell Slot.Name)) (sym ((bytes_decides text name).0 same)) other,
        )
        by false differ = (
          name_tied before.ties ∙ untied,
          (λ both.
              let alike : text ≡ name = both.1.1 text one.0 ∙ sym (both.2.1 name other.0) in
              true≢false (sym ((bytes_decides text name).1 alike) ∙ differ)),
        )

-- ---- branches

module _ (before : Tied) (is : Bool) (plan : Plan Left) (found : List Restarted) where
  may_at : (answer : Bool) (state : AbsState) → MayBe state.cell state.ties answer
      → May (equal Slot.Text Slot.Name) state answer
  may_at true state may = may
  may_at false state may = may

  may_of : (answer : Bool) (state : AbsState) → May (equal Slot.Text Slot.Name) state answer
      → MayBe state.cell state.ties answer
  may_of true state may = may
  may_of false state may = may

  same_may : (client : Option Addr) (state : AbsState) → EndsAt client before state
      → MayBe state.cell state.ties is ≡ MaySay before is
  same_may client state ends = λ i. MayBe (ends.cell i) (ends.ties i) is

  pub answer_given : MaySay before is → AreOn RestartedFits (Some before) plan found → OnAnswer before is plan found
  answer_given may are client state ends =
      let of = are client state ends in (
        of.0,
        inl (may_at is state (subst (λ P. P) (sym (same_may client state ends)) may), of.1),
        of.2,
      )

  pub answer_lacks : (MaySay before is → ⊥) → found ≡ [] → OnAnswer before is plan found
  answer_lacks never none client state ends = (
    [],
    inr ((λ may. never (subst (λ P. P) (same_may client state ends) (may_of is state may))), refl),
    subst (λ found. AllFit (RestartedFits client) found []) (sym none) refl,
  )

-- The text may be the file name.
pub found_fits : (before copy : Tied) (kind : Kind) (earlier found : List Restarted) → copy ≡ before → earlier ≡ []
    → found ≡ earlier ++ record { tied = copy; left = left.Found kind } ∷ []
    → AreOn RestartedFits (Some before) (done (is_found kind)) found
found_fits before copy kind earlier found same none is client state ends =
    subst (λ found. AreBranches (RestartedFits client) (done (is_found kind)) state found)
    (sym (is ∙ (λ i. none i ++ record { tied = same i; left = left.Found kind } ∷ [])))
    (end_fits (RestartedFits client) state (is_found kind) (record { tied = before; left = left.Found kind })
    (record { at = ends; left = refl; texts = tt }))

pub restart_fits : (restart : Restart) (before : Tied) (one other all : List Restarted)
    → OnAnswer before true (done (is_found restart.kind)) one → OnAnswer before false (placed_plan restart) other
    → all ≡ one ++ other → AreRestarted restart before all
unfolding Branches restart_plan
restart_fits restart before one other all on_same on_other is client state ends =
    let first = on_same client state ends in
    let rest = on_other client state ends in (
      first.0 ++ rest.0,
      (first.0, rest.0, refl, first.1, rest.1),
      subst (λ all. AllFit (RestartedFits client) all (first.0 ++ rest.0)) (sym is)
          (both_fit (RestartedFits client) one other first.0 rest.0 first.2 rest.2),
    )
