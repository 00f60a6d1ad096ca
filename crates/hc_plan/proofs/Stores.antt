-- What code stores in slots, plans store.
use Rattle.hc_plan.proofs.Common.{◌≡◌, ◌∙◌, ◌&&◌, ℕ, List, [], ◌∷◌, Bool, true, false, Some, refl, sym}
use Rattle.hc_plan.proofs.Common.{ap, subst, fun_ext, if◌then◌else◌, IsSetOf}
use Rattle.std.specs.List.{list_all}
use Rattle.std.specs.Prelude.{cond, nat_lt}
use Rattle.hc_cells.specs.Cells.{Puts, Sets, of_set, set_at}
use Rattle.hc_cells.specs.declared.ties.Ties.{Ties}
use Rattle.hc_dfa.specs.Automata.{Automaton}
use Rattle.hc_plan.specs.Branches.{Branch, Branches, StoredHas, StoredIn, without_texts}
use Rattle.hc_plan.specs.Coded.{AllFit, AreBranches}
use Rattle.hc_plan.specs.Hands.{cell_of, set_in}
use Rattle.hc_plan.specs.Plan.{Plan, store, Stored as PlanStored}
use Rattle.hc_plan.specs.Slots.{Slot, put, same_slot, untied}
use Rattle.hc_plan.specs.States.{AbsState}
use Rattle.hc_plan.specs.Stores.{Stores}
use Rattle.hc_plan.specs.declared.storing.Stored.{Stored}
use Rattle.hc_plan.specs.declared.storing.Tied.{Tied}

-- A cell with another set in a slot.
pub put_in : (sets made : Sets) (slot : Slot) (set : Automaton) → Puts sets slot set made
    → cell_of made ≡ put slot (set_in set) (cell_of sets)
put_in sets made slot set puts = fun_ext (λ at. fun_ext (λ x.
    ap (λ found. list_all (λ b. nat_lt b 256) x && of_set found x) (puts at) ∙ by at x (same_slot slot at)))
  where
    by : (at : Slot) (x : List ℕ) (v : Bool)
        → (list_all (λ b. nat_lt b 256) x && of_set (cond v (Some set) (set_at sets at)) x)
        ≡ (if v then set_in set else cell_of sets at) x
    by at x true = refl
    by at x false = refl

-- What a plan stores in a slot, and what code does.
abbrev pub StoresSame : AbsState → (Slot × PlanStored) → Stored → Type 0
StoresSame state one stored = (one.0 ≡ stored.slot) × IsSetOf (set_in stored.set) (StoredHas state one.1)

-- The state that is left.
pub record Left (state so_far : AbsState) (list : List (Slot × PlanStored)) (made : Tied) : Type 0 where
  pub next : AbsState
  pub is : StoredIn state list so_far next
  pub cell : next.cell ≡ cell_of made.cell
  pub ties : next.ties ≡ made.ties
  pub given : next.given ≡ so_far.given
  pub printed : next.printed ≡ so_far.printed

pub store_fits : (state so_far : AbsState) (sets : Sets) (ties : Ties) (list : List (Slot × PlanStored))
    (stored : List Stored) (made : Tied) → AllFit (StoresSame state) list stored → so_far.cell ≡ cell_of sets
    → so_far.ties ≡ ties → Stores sets ties stored made → Left state so_far list made
store_fits state so_far sets ties [] stored made fit cell tied stores =
    let is = subst (λ stored. Stores sets ties stored made) fit stores in
    record {
      next = without_texts so_far;
      is = refl;
      cell = cell ∙ ap cell_of (sym is.0);
      ties = tied ∙ sym is.1;
      given = refl;
      printed = refl;
    }
store_fits state so_far sets ties (one ∷ list) stored made fit cell tied stores =
    let is = subst (λ stored. Stores sets ties stored made) fit.2 stores in
    let set = set_in (fit.0).set in
    let next : AbsState =
    record so_far { cell = put one.0 set so_far.cell; ties = untied one.0 so_far.ties } in
    let left = store_fits state next is.0 (untied (fit.0).slot ties) list fit.1 made fit.4
    ((λ i. put (fit.3.0 i) set (cell i)) ∙ sym (put_in sets is.0 (fit.0).slot (fit.0).set is.1))
    (λ i. untied (fit.3.0 i) (tied i)) is.2 in
    record {
      next = left.next;
      is = (set, fit.3.1, left.is);
      cell = left.cell;
      ties = left.ties;
      given = left.given;
      printed = left.printed;
    }

-- Where code's branches are those of what follows the state that is left, they are those of the plan that stores.
pub stored_fits : {A B : Type 0} (Fit : B → Branch A → Type 0) (state : AbsState) (list : List (Slot × PlanStored))
    (made : Tied) (plan : Plan A) (found : List B) → (left : Left state state list made)
    → AreBranches Fit plan left.next found → AreBranches Fit (store list plan) state found
unfolding Branches
stored_fits Fit state list made plan found left is = (is.0, (left.next, left.is, is.1), is.2)
