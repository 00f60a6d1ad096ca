-- Automata that are built row by row from keys.
use Rattle.hc_dfa.proofs.Common.{◌≡◌, ℕ, ◌+◌, ◌*◌, ◌/◌, ◌%◌, ◌<◌, ◌≤◌, List, []}
use Rattle.hc_dfa.proofs.Common.{◌∷◌, ◌++◌, length, get_or, Some, None, slice_get, slice_index, sym}
use Rattle.hc_dfa.proofs.Common.{◌∙◌, ap, subst, arith, inl, inr, ◌⊎◌, Bool, false}
use Rattle.hc_dfa.proofs.Common.{length-append, common_steps, div-mul-add, mod-mul-add}
use Rattle.hc_dfa.proofs.Common.{get_or_append_left, get_or-append_seam, slice_get_within, slice_get-get_or}
use Rattle.hc_dfa.proofs.Common.{add-mul, slice_get_cases, Classing, AreClasses, IsRows}
use Rattle.hc_dfa.specs.Explored.{Extends, IsMet, Leads, Explored, AreMarked, AreRows, IsTableOf, RowsExplored}

-- Where no key stands, the keys have ended.
pub keys_ended : {K : Type 0} (keys : List K) (i : ℕ) → slice_get keys i ≡ None → length keys ≤ i
keys_ended keys i none =
    elim (slice_get_cases keys i).1 [ inl here ↦ (let found = here.2 in absurd (cc)) | inr past ↦ past.0 ]

module _ {K : Type 0} (width : ℕ) (Proper : K → Type 0)
    (Step : K → ℕ → K → Type 0) where
  -- A cell that leads on still does when keys are added.
  pub leads_later : (keys more : List K) (cell number : ℕ) → Extends keys more → Leads width Step keys cell number
      → Leads width Step more cell number
  leads_later keys more cell number extends leads =
      record {
        from = leads.from;
        to = leads.to;
        from_is = extends (cell / width) leads.from leads.from_is;
        to_is = extends number leads.to leads.to_is;
        step = leads.step;
      }

  -- The new cell leads on by its place in the row.
  pub leads_on : (keys : List K) (key to : K) (row byte number cell : ℕ) → slice_get keys row ≡ Some key
      → slice_get keys number ≡ Some to
      → cell ≡ row * width + byte → byte < width → Step key byte to → Leads width Step keys cell number
  leads_on keys key to row byte number cell at stored is below step =
      let e : cell / width ≡ row = ap (λ x. x / width) is ∙ div-mul-add row width byte below in
      let f : cell % width ≡ byte = ap (λ x. x % width) is ∙ mod-mul-add row width byte below in
      record { from = key; to = to; from_is = rw e at; to_is = stored; step = rw f step }

  -- One more cell: its number is that of the key that its byte leads to.
  pub explored_cell : (keys more : List K) (key to : K) (next : List ℕ) (row byte number : ℕ)
      → Explored width Proper Step keys next → Extends keys more
      → ((i : ℕ) (other : K) → slice_get more i ≡ Some other → Proper other)
      → slice_get keys row ≡ Some key → slice_get more number ≡ Some to
      → length next ≡ row * width + byte → byte < width → Step key byte to
      → Explored width Proper Step more (next ++ number ∷ [])
  explored_cell keys more key to next row byte number is extends proper at stored len below step =
      record {
        proper = proper;
        leads = λ cell cell_below.
            let cases : (cell < length next) ⊎ (cell ≡ length next) = grind (arith, common_steps) in
            elim cases [
              | inl old ↦ rw (get_or_append_left next (number ∷ []) 0 cell old)
                  (leads_later keys more cell (slice_index next cell) extends (is.leads cell old))
              | inr e ↦ rw (e, get_or-append_seam next number [] 0)
                  (leads_on more key to row byte number (length next) (extends row key at) stored len below step)
            ];
      }

  -- The same where the key is met.
  pub explored_more : (keys more : List K) (key to : K) (next : List ℕ) (row byte number : ℕ)
      → Explored width Proper Step keys next → IsMet keys to more number
      → slice_get keys row ≡ Some key
      → length next ≡ row * width + byte → byte < width → Step key byte to → Proper to
      → Explored width Proper Step more (next ++ number ∷ [])
  explored_more keys more key to next row byte number is met at len below step proper =
      explored_cell keys more key to next row byte number is met.extends
      (λ i other here. elim (met.only i other here)
      [ inl old ↦ is.proper i other old | inr e ↦ subst Proper (sym e) proper ])
      at met.stored len below step

  -- The cell of a key and a place in its row leads to the key of the step.
  pub leads_at : (keys : List K) (next : List ℕ) (state byte : ℕ) (key : K) → Explored width Proper Step keys next
      → slice_get keys state ≡ Some key
      → state * width + byte < length next → byte < width → (to : K)
      × (slice_get keys (slice_index next (state * width + byte)) ≡ Some to) × Step key byte to
  leads_at keys next state byte key is at within below =
      let cell : ℕ = state * width + byte in
      let leads = is.leads cell within in
      let e : cell / width ≡ state = div-mul-add state width byte below in
      let f : cell % width ≡ byte = mod-mul-add state width byte below in
      let same : leads.from ≡ key = let from = rw e at leads.from_is in cc in (
        leads.to,
        leads.to_is,
        subst (λ (b : ℕ). Step key b leads.to) f
            (subst (λ (k : K). Step k (cell % width) leads.to) same leads.step),
      )

pub first_key : {K : Type 0} (keys more : List K) (key : K) (number : ℕ) → keys ≡ []
    → IsMet keys key more number → slice_get more 0 ≡ Some key
first_key keys more key number none met =
    let within = slice_get_within more number key met.stored in
    let first = slice_get-get_or more 0 key (omega arith) in
    elim (met.only 0 (get_or more 0 key) first)
    [ inl old ↦ (let nothing = rw none at old in absurd (cc)) | inr e ↦ first ∙ ap Some e ]

module _ {K : Type 0} (Mark : K → Bool → Type 0) where
  pub mark_at : (keys : List K) (marks : List Bool) (i : ℕ) (key : K) → AreMarked Mark keys marks
      → i < length marks
      → slice_get keys i ≡ Some key → Mark key (get_or marks i false)
  mark_at keys marks i key marked below at =
      let m = marked i below in
      let e : m.0 ≡ key = (let f = m.1 in cc) in
      subst (λ (k : K). Mark k (get_or marks i false)) e m.2

  pub marked_more : (keys more : List K) (marks : List Bool) (count : ℕ) (key : K) (answer : Bool)
      → AreMarked Mark keys marks → Extends keys more
      → length marks ≡ count → slice_get keys count ≡ Some key → Mark key answer
      → AreMarked Mark more (marks ++ answer ∷ [])
  marked_more keys more marks count key answer marked extends len at is i below =
      let cases : (i < length marks) ⊎ (i ≡ length marks) = grind (arith, common_steps) in
      elim cases [
        | inl old ↦
            (let m = marked i old in
            (m.0, extends i m.0 m.1, rw (get_or_append_left marks (answer ∷ []) false i old) m.2))
        | inr e ↦ (key, rw (e, len) (extends count key at), rw (e, get_or-append_seam marks answer [] false) is)
      ]

module _ {K : Type 0} (IsFirst IsKey : K → Type 0) (Leads : K → ℕ → K → Type 0)
    (Marks : K → Bool → Type 0)
    (bytes : List ℕ) where
  -- The first key, with no row yet.
  pub rows_begun : (keys more : List K) (key : K) (number : ℕ) → keys ≡ [] → IsMet keys key more number
      → IsFirst key
      → IsKey key → AreRows IsFirst IsKey Leads Marks bytes more [] [] 0
  rows_begun keys more key number none met first proper =
      record {
        first = (key, first_key keys more key number none met, first);
        explored = record {
          proper = λ i other here. elim (met.only i other here)
              [ inl old ↦ (let nothing = rw none at old in absurd (cc)) | inr e ↦ subst IsKey (sym e) proper ];
          leads = λ cell below. absurd (omega arith);
        };
        marked = λ i below. absurd (omega arith);
        rows = omega arith;
        marks = omega arith;
      }

  -- The row and the mark of a key more.
  pub rows_more : (keys more : List K) (next later : List ℕ) (finals : List Bool) (count : ℕ) (key : K)
      (answer : Bool)
      → AreRows IsFirst IsKey Leads Marks bytes keys next finals count → slice_get keys count ≡ Some key
      → RowsExplored IsKey Leads bytes more later → length later ≡ length next + length bytes
      → Extends keys more
      → Marks key answer → AreRows IsFirst IsKey Leads Marks bytes more later (finals ++ answer ∷ []) (count + 1)
  rows_more keys more next later finals count key answer before at explored len extends mark =
      record {
        first = (before.first.0, extends 0 before.first.0 before.first.1, before.first.2);
        explored = explored;
        marked = marked_more Marks keys more finals count key answer before.marked extends before.marks at mark;
        rows = (let b = before.rows in let d = add-mul count 1 (length bytes) in omega arith);
        marks = (let b = before.marks in let l = length-append finals (answer ∷ []) in omega arith);
      }

  -- The rows and the marks of all keys are a table.
  pub table : (c : Classing) (next : List ℕ) (finals : List Bool) → AreClasses c → c.firsts ≡ bytes
      → IsTableOf IsFirst IsKey Leads Marks bytes next finals → IsRows c next finals
  table c next finals classes firsts is =
      record {
        some = (let w = slice_get_within is.keys 0 is.rows.first.0 is.rows.first.1 in let a = is.all in omega arith);
        few = is.few;
        classes = classes;
        whole = is.rows.rows ∙ ap (λ (xs : List ℕ). length finals * length xs) (sym firsts);
        within = λ cell below. let leads = is.rows.explored.leads cell below in
            let w = slice_get_within is.keys (slice_index next cell) leads.to leads.to_is in
            let a = is.all in omega arith;
      }
