-- Automata whose states stand for keys.
use Rattle.hc_dfa.proofs.Common.{◌≡◌, ℕ, ◌<◌, List, [], length, Bool, Some, slice_get, arith, ap, ◌∙◌}
use Rattle.hc_dfa.proofs.Common.{slice_get_within, Automaton, next_state, accepts_from, Classing, AreClasses}
use Rattle.hc_dfa.proofs.Common.{class_count, class_of, first_of, expanded}
use Rattle.hc_dfa.proofs.Cells.{leads_at, mark_at}
use Rattle.hc_dfa.proofs.Tables.{cell_within, expanded_at}
use Rattle.hc_dfa.specs.Explored.{IsTableOf}

-- Each key has a row and a mark, and bytes of one class lead to the same keys.
pub record AreKeyed {K : Type 0} (IsFirst IsKey : K → Type 0) (Leads : K → ℕ → K → Type 0)
    (Marks : K → Bool → Type 0) (c : Classing) (rows : List ℕ) (finals : List Bool) : Type 0 where
  pub classes : AreClasses c
  pub tells : (from to : K) (b d : ℕ) → IsKey from → b < 256 → d < 256 → class_of c b ≡ class_of c d
      → Leads from b to → Leads from d to
  pub table : IsTableOf IsFirst IsKey Leads Marks c.firsts rows finals

module _ {K : Type 0} (IsFirst IsKey : K → Type 0) (Leads : K → ℕ → K → Type 0)
    (Marks : K → Bool → Type 0) (c : Classing) (rows : List ℕ) (finals : List Bool)
    (is : AreKeyed IsFirst IsKey Leads Marks c rows finals) where
  abbrev pub made : Automaton
  made = record { next = expanded c rows (length finals); finals = finals }

  here : (state : ℕ) (key : K) → slice_get is.table.keys state ≡ Some key → state < length finals
  here state key at = (let w = slice_get_within is.table.keys state key at in let all = is.table.all in omega arith)

  -- The state of a key is final where the key's mark says so.
  pub marked : (state : ℕ) (key : K) → slice_get is.table.keys state ≡ Some key
      → Marks key (accepts_from made state [])
  marked state key at =
      mark_at Marks is.table.keys finals state key is.table.rows.marked (here state key at) at

  -- A byte leads from the state of a key to that of the key to which it leads.
  pub leads_on : (state byte : ℕ) (key : K) → slice_get is.table.keys state ≡ Some key → byte < 256
      → (to : K) × (slice_get is.table.keys (next_state made state byte) ≡ Some to) × Leads key byte to
  leads_on state byte key at below =
      let class = is.classes.within byte below in
      let row = here state key at in
      let leads = leads_at (class_count c) IsKey (λ from k to. Leads from (first_of c k) to) is.table.keys rows
      state (class_of c byte) key is.table.rows.explored at
      (rw is.table.rows.rows (cell_within (class_count c) state (class_of c byte) (length finals) row class)) class
      in (
        leads.0,
        ap (λ k. slice_get is.table.keys k) (expanded_at c rows (length finals) state byte row below) ∙ leads.1,
        is.tells key leads.0 (first_of c (class_of c byte)) byte (is.table.rows.explored.proper state key at)
            (is.classes.below (class_of c byte) class) below (is.classes.own (class_of c byte) class) leads.2,
      )
