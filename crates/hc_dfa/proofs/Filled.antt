-- Tables that are filled row by row.
use Rattle.hc_dfa.proofs.Common.{◌≡◌, ℕ, ◌+◌, ◌*◌, ◌/◌, ◌%◌, ◌<◌, ◌⊎◌, List, []}
use Rattle.hc_dfa.proofs.Common.{◌∷◌, ◌++◌, length, slice_index, slice_index_or, Bool, false, sym, ◌∙◌}
use Rattle.hc_dfa.proofs.Common.{ap, arith, inl, inr, common_steps, get_or_append_left, get_or-append_seam, div-mul-add}
use Rattle.hc_dfa.proofs.Common.{mod-mul-add, same_number_lists, Automaton, states, next_state, is_final, Classing}
use Rattle.hc_dfa.proofs.Common.{AreClasses, class_of, class_count, first_of}
use Rattle.hc_dfa.specs.Classings.{automaton_of}
use Rattle.hc_dfa.specs.Tabled.{AreFilled, IsTabled, TellsAll}
use Rattle.std.proofs.lemmas.List.{ext_get_or}
use Rattle.hc_dfa.proofs.Runs.{IsAutomaton}
use Rattle.hc_dfa.proofs.Tables.{cell_within, expanded_at}

module _ (count : ℕ) (step : ℕ → ℕ → ℕ) (bytes : List ℕ) where
  -- One more cell of the row of a state.
  pub filled_more : (rows : List ℕ) (state place to : ℕ)
      → AreFilled count step bytes rows (state * length bytes + place) → place < length bytes
      → to ≡ step state (slice_index bytes place) → to < count
      → AreFilled count step bytes (rows ++ to ∷ []) (state * length bytes + (place + 1))
  filled_more rows state place to is within leads below =
      record {
        len = (let l = is.len in grind (arith, common_steps));
        each = each;
        within = λ cell small. elim (cases cell small) [
          | inl old ↦ rw (get_or_append_left rows (to ∷ []) 0 cell old) (is.within cell (rw is.len at old))
          | inr e ↦ rw (e, get_or-append_seam rows to [] 0) below
        ];
      }
    where
      cases : (cell : ℕ) → cell < state * length bytes + (place + 1)
          → (cell < length rows) ⊎ (cell ≡ length rows)
      cases cell small = let l = is.len in grind arith

      each : (s p : ℕ) → p < length bytes → s * length bytes + p < state * length bytes + (place + 1)
          → slice_index (rows ++ to ∷ []) (s * length bytes + p) ≡ step s (slice_index bytes p)
      each s p small cell =
          elim (cases (s * length bytes + p) cell) [
            | inl old ↦ get_or_append_left rows (to ∷ []) 0 (s * length bytes + p) old
                ∙ is.each s p small (rw is.len at old)
            | inr e ↦
                let same : s * length bytes + p ≡ state * length bytes + place = e ∙ is.len in
                let row : s ≡ state = sym (div-mul-add s (length bytes) p small)
                ∙ (ap (λ x. x / length bytes) same ∙ div-mul-add state (length bytes) place within) in
                let column : p ≡ place = sym (mod-mul-add s (length bytes) p small)
                ∙ (ap (λ x. x % length bytes) same ∙ mod-mul-add state (length bytes) place within) in
                rw (e, get_or-append_seam rows to [] 0, row, column) leads
          ]

pub filled_all : (count : ℕ) (step : ℕ → ℕ → ℕ) (mark : ℕ → Bool) (c : Classing) (rows : List ℕ)
    (finals : List Bool) → AreClasses c → length finals ≡ count
    → AreFilled count step c.firsts rows (count * class_count c)
    → ((state : ℕ) → state < count → slice_index_or finals state false ≡ mark state) → TellsAll c count step
    → IsTabled count step mark (automaton_of c rows finals)
filled_all count step mark c rows finals classes len filled marks tells = record {
  len = len;
  steps = λ state byte s b.
      let class = classes.within byte b in
      expanded_at c rows (length finals) state byte (omega arith) b
      ∙ (filled.each state (class_of c byte) class
      (cell_within (class_count c) state (class_of c byte) count s class)
      ∙ tells state (first_of c (class_of c byte)) byte s (classes.below (class_of c byte) class) b
      (classes.own (class_of c byte) class));
  finals = marks;
}

-- An automaton with the steps and marks of another is the same.
pub same_table : (a made : Automaton) → IsAutomaton a → IsAutomaton made
    → IsTabled (states a) (next_state a) (is_final a) made → made ≡ a
same_table a made table other is =
    let len : length made.next ≡ length a.next =
    (let l = is.len in let w = table.whole in let o = other.whole in omega arith) in
    let next : made.next ≡ a.next =
    same_number_lists _ _ len
    (λ k below.
    let whole : 256 * (k / 256) + k % 256 ≡ k = omega arith in
    let cell = is.steps (k / 256) (k % 256) (let w = table.whole in omega arith) (omega arith) in
    rw whole at cell) in
    let finals : made.finals ≡ a.finals =
    ext_get_or false _ _ is.len (λ s below. is.finals s (let l = is.len in omega arith)) in
    λ i. record { next = next i; finals = finals i }
