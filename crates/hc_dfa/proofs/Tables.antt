-- Tables by classes of bytes.
use Rattle.hc_dfa.proofs.Common.{◌≡◌, ℕ, ◌+◌, ◌*◌, ◌/◌, ◌%◌, ◌<◌, List, length, map}
use Rattle.hc_dfa.proofs.Common.{slice_index, Bool, sym, ◌∙◌, ap, arith, not}
use Rattle.hc_dfa.proofs.Common.{div-mul-add, mod-mul-add, mul-add-lt}
use Rattle.hc_dfa.proofs.Common.{length-map, same_number_lists}
use Rattle.hc_dfa.proofs.Common.{Automaton, states, next_state, IsTable, Classing, class_of, first_of, class_count}
use Rattle.hc_dfa.proofs.Common.{AreClasses, IsAsFine, Tells, IsRows, expanded, Accepts, complement_of}
use Rattle.std.proofs.lemmas.List.FromFn.{get_or-map-range_with_len, length-map-range_with_len}
use Rattle.hc_dfa.proofs.Runs.{complemented}

-- A place in a row is a place in the table.
pub cell_within : (width row place count : ℕ) → row < count → place < width
    → row * width + place < count * width
cell_within width row place count r p = omega (arith, mul-add-lt row width place count r p)

-- The least byte of a byte's class stands for it.
pub stands_for : (c : Classing) (a : Automaton) → AreClasses c → Tells c a → (s byte : ℕ) → s < states a
    → byte < 256
    → next_state a s (first_of c (class_of c byte)) ≡ next_state a s byte
stands_for c a is tells s byte below b =
    let w = is.within byte b in
    tells s (first_of c (class_of c byte)) byte below (is.below (class_of c byte) w) b (is.own (class_of c byte) w)

-- Finer classes tell as much apart.
pub finer_tells : (c old : Classing) (a : Automaton) → IsAsFine c old.classes → Tells old a → Tells c a
finer_tells c old a fine tells s b d below bb db same = tells s b d below bb db (fine b d bb db same)

module _ (c : Classing) (rows : List ℕ) (count : ℕ) where
  pub expanded_cell : (cell : ℕ) → cell < 256 * count
      → slice_index (expanded c rows count) cell
      ≡ slice_index rows (cell / 256 * class_count c + class_of c (cell % 256))
  unfolding expanded
  expanded_cell cell below =
      get_or-map-range_with_len (λ k. slice_index rows (k / 256 * class_count c + class_of c (k % 256))) 0
      (256 * count) cell cell 0 below (omega arith)

  pub expanded_at : (state byte : ℕ) → state < count → byte < 256
      → slice_index (expanded c rows count) (256 * state + byte)
      ≡ slice_index rows (state * class_count c + class_of c byte)
  expanded_at state byte s b =
      let cell : ℕ = 256 * state + byte in
      let turned : cell ≡ state * 256 + byte = omega arith in
      let row : cell / 256 ≡ state = ap (λ x. x / 256) turned ∙ div-mul-add state 256 byte b in
      let column : cell % 256 ≡ byte = ap (λ x. x % 256) turned ∙ mod-mul-add state 256 byte b in
      expanded_cell cell (omega arith)
      ∙ (ap (λ x. slice_index rows (x * class_count c + class_of c (cell % 256))) row
      ∙ ap (λ x. slice_index rows (state * class_count c + class_of c x)) column)

  pub expanded_length : length (expanded c rows count) ≡ 256 * count
  unfolding expanded
  expanded_length = length-map-range_with_len (λ k. slice_index rows (k / 256 * class_count c + class_of c (k % 256)))
      0 (256 * count)

pub expanded_table : (c : Classing) (rows : List ℕ) (finals : List Bool) → IsRows c rows finals
    → IsTable (expanded c rows (length finals)) finals
expanded_table c rows finals is = record {
  some = is.some;
  few = is.few;
  whole = expanded_length c rows (length finals);
  within = λ k below.
      let below' : k < 256 * length finals = (let e = expanded_length c rows (length finals) in omega arith) in
      let row : k / 256 < length finals = omega arith in
      let column : k % 256 < 256 = omega arith in
      let cell = cell_within (class_count c) (k / 256) (class_of c (k % 256)) (length finals) row
      (is.classes.within (k % 256) column) in
      rw (expanded_cell c rows (length finals) k below')
      (is.within (k / 256 * class_count c + class_of c (k % 256)) (rw is.whole cell));
}

pub expanded_tells : (c : Classing) (rows : List ℕ) (finals : List Bool)
    → Tells c (record { next = expanded c rows (length finals); finals = finals })
expanded_tells c rows finals s b d below bb db same =
    expanded_at c rows (length finals) s b below bb
    ∙ (ap (λ x. slice_index rows (s * class_count c + x)) same
    ∙ sym (expanded_at c rows (length finals) s d below db))

-- A table with an entry for each byte is its own.
pub single_table : (c : Classing) (rows : List ℕ) (finals : List Bool) → AreClasses c → class_count c ≡ 256
    → ((byte : ℕ) → byte < 256 → class_of c byte ≡ byte) → IsTable rows finals
    → expanded c rows (length finals) ≡ rows
single_table c rows finals classes count own is =
    same_number_lists _ _ (expanded_length c rows (length finals) ∙ sym is.whole)
    (λ k below.
    let here : k < 256 * length finals = (let e = expanded_length c rows (length finals) in omega arith) in
    let cell : k / 256 * class_count c + class_of c (k % 256) ≡ k =
    ap (λ w. k / 256 * w + class_of c (k % 256)) count
    ∙ (ap (λ x. k / 256 * 256 + x) (own (k % 256) (omega arith)) ∙ omega arith) in
    expanded_cell c rows (length finals) k here ∙ ap (λ x. slice_index rows x) cell)

pub single_rows : (c : Classing) (rows : List ℕ) (finals : List Bool) → AreClasses c → class_count c ≡ 256
    → IsTable rows finals → IsRows c rows finals
single_rows c rows finals classes count is = record {
  some = is.some;
  few = is.few;
  classes = classes;
  whole = is.whole ∙ (omega arith ∙ ap (λ w. length finals * w) (sym count));
  within = is.within;
}

-- The rows with the opposite finals.
pub opposite_rows : (c : Classing) (rows : List ℕ) (finals opposite : List Bool) → IsRows c rows finals
    → opposite ≡ map not finals → IsRows c rows opposite
opposite_rows c rows finals opposite is e =
    let len : length opposite ≡ length finals = ap length e ∙ length-map finals not in
    record {
      some = (let s = is.some in omega arith);
      few = (let f = is.few in omega arith);
      classes = is.classes;
      whole = is.whole ∙ ap (λ (n : ℕ). n * class_count c) (sym len);
      within = λ k below. let w = is.within k below in omega arith;
    }

pub opposite_accepts : (c : Classing) (rows : List ℕ) (finals opposite : List Bool) → IsRows c rows finals
    → opposite ≡ map not finals
    → Accepts (record { next = expanded c rows (length opposite); finals = opposite })
    (complement_of (record { next = expanded c rows (length finals); finals = finals }))
opposite_accepts c rows finals opposite is e =
    let len : length opposite ≡ length finals = ap length e ∙ length-map finals not in
    complemented (record { next = expanded c rows (length finals); finals = finals })
    (record { next = expanded c rows (length opposite); finals = opposite })
    (expanded_table c rows finals is) (ap (λ n. expanded c rows n) len) e

-- Rows whose entries are led on by a table.
pub led_rows : (c : Classing) (rows led table : List ℕ) (finals : List Bool) → IsRows c rows finals
    → length led ≡ length rows
    → ((k : ℕ) → k < length rows → slice_index led k ≡ slice_index table (slice_index rows k))
    → ((s : ℕ) → s < length finals → slice_index table s < length finals) → IsRows c led finals
led_rows c rows led table finals is len each within = record {
  some = is.some;
  few = is.few;
  classes = is.classes;
  whole = len ∙ is.whole;
  within = λ k below.
      let here : k < length rows = omega (arith, len, below) in
      rw (each k here) (within (slice_index rows k) (is.within k here));
}

pub led_at : (c : Classing) (rows led table : List ℕ) (finals : List Bool) → IsRows c rows finals
    → ((k : ℕ) → k < length rows → slice_index led k ≡ slice_index table (slice_index rows k))
    → (s byte : ℕ) → s < length finals → byte < 256
    → slice_index (expanded c led (length finals)) (256 * s + byte)
    ≡ slice_index table (slice_index (expanded c rows (length finals)) (256 * s + byte))
led_at c rows led table finals is each s byte below b =
    let cell = cell_within (class_count c) s (class_of c byte) (length finals) below (is.classes.within byte b) in
    expanded_at c led (length finals) s byte below b
    ∙ (each (s * class_count c + class_of c byte) (rw is.whole cell)
    ∙ ap (λ x. slice_index table x) (sym (expanded_at c rows (length finals) s byte below b)))
