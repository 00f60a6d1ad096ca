-- The sets of a network's addresses have all of them, and no other text.
use Rattle.hc_net_sets.proofs.Common.{◌≡◌, ℕ, zero, suc, ◌+◌, ◌-◌, ◌*◌, ◌^◌, ◌<◌}
use Rattle.hc_net_sets.proofs.Common.{◌≤◌, ◌==◌, ◌&&◌, ◌||◌, Bool}
use Rattle.hc_net_sets.proofs.Common.{true, false, refl, sym, ◌∙◌, ap, ap₂, arith, List, [], ◌∷◌, take}
use Rattle.hc_net_sets.proofs.Common.{drop}
use Rattle.hc_net_sets.proofs.Common.{Option, Some, None, nat_lt, if◌then◌else◌}
use Rattle.hc_net_sets.proofs.Gaps.{has_count, sides_valued}
use Rattle.hc_net_sets.proofs.Numbers.{no_last}
use Rattle.hc_net_sets.proofs.Pieces.{in_row, no_gap, row_begins, row_full, row_more}
use Rattle.hc_net_sets.proofs.Values.{whole_valued}
use Rattle.std.proofs.Math.Nat.{div-eq_of_lt}
use Rattle.std.proofs.lemmas.Bool.{and_parts, eqb-false, eqb-true, false_from_ne_true, ltb-false, ltb-true, lt-ltb}
use Rattle.std.proofs.lemmas.Bool.{or_parts}
use Rattle.std.proofs.Common.{add-one}
use Rattle.std.specs.List.{list_any, onto_first, slice_split}
use Rattle.std.specs.Option.{option_map}
use Rattle.hc_addr.specs.Addresses.{around, begins_with_gap, gap_of, has_colon, side_of, v4_of, v6_at, v6_of}
use Rattle.hc_addr.specs.Networks.{same_under}
use Rattle.hc_addr.specs.Numbers.{is_colon}
use Rattle.hc_addr.specs.declared.addr.Addr.TheVariants.{V4, V6}
use Rattle.hc_addr.specs.declared.net.Net.{Net}
use Rattle.hc_addr.specs.declared.numbers.NumberRow.{NumberRow}
use Rattle.hc_base.specs.Bytes.{colon, dot}
use Rattle.hc_dfa.specs.Automata.{Automaton, accepts}
use Rattle.hc_dfa.specs.Built.{Accepts}
use Rattle.hc_dfa.specs.Readings.{reading_from}
use Rattle.hc_net_sets.specs.Digits.{begin_digits, ends, next_digits}
use Rattle.hc_net_sets.specs.Networks.{in_network, is_in}
use Rattle.hc_net_sets.specs.Rows.{back_fits, front_fits, gapped_texts, is_none, is_nothing, number_fits, passes}
use Rattle.hc_net_sets.specs.Rows.{number_in, parted, pieces_of, row_fits, whole_texts}
use Rattle.hc_net_sets.specs.Sought.{fits_at}
use Rattle.hc_net_sets.specs.Unions.{four, six, six_texts}
use Rattle.hc_net_sets.specs.declared.digits.Digits.{Digits}
use Rattle.hc_net_sets.specs.declared.digits.Digits.TheVariants.{Byte, Group, Wrong}
use Rattle.hc_net_sets.specs.declared.sought.Family.TheVariants.{Six}
use Rattle.hc_net_sets.specs.declared.sought.Sought.{Sought}

pub more_gaps : (set both : Automaton) (own mask behind : ℕ) → Accepts set (six_texts own mask behind)
    → Accepts both (λ text. accepts set text || gapped_texts (six own mask behind) text)
    → Accepts both (six_texts own mask (behind + 1))
more_gaps set both own mask behind held more text bytes =
    more text bytes ∙ ap (λ v. v || gapped_texts (six own mask behind) text) (held text bytes)
    ∙ ap (λ k. six_texts own mask k text) (sym (add-one behind))

-- ---- IPv4

-- A colon stands in no row of bytes.
module _ (own mask : ℕ) where
  wrong_row : (place : ℕ) (pieces : List (List ℕ)) → in_row (four own mask) is_none place Wrong pieces ≡ false
  wrong_row place [] = refl
  wrong_row place (piece ∷ pieces) = ap (λ t. t && row_fits (four own mask) is_none place pieces) (wrong piece)
    where
      wrong : (text : List ℕ)
          → reading_from (next_digits (four own mask) place) (ends (four own mask) place) Wrong text ≡ false
      wrong [] = refl
      wrong (b ∷ text) = wrong text

  -- A colon is no digit.
  no_digit : (place : ℕ) (digits : Digits) → next_digits (four own mask) place digits colon ≡ Wrong
  no_digit place (Byte count value) = refl
  no_digit place (Group fits) = refl
  no_digit place Wrong = refl

  no_colon : (text : List ℕ) → has_colon text ≡ true → (place : ℕ) (digits : Digits)
      → in_row (four own mask) is_none place digits (pieces_of (four own mask) text) ≡ false
  no_colon [] has place digits = cc
  no_colon (b ∷ text) has place digits =
      row_more (four own mask) is_none place digits b text ∙ by (is_colon b) refl (no_colon text)
    where
      stopped : (left : ℕ) → ((place : ℕ) (digits : Digits)
          → in_row (four own mask) is_none place digits (pieces_of (four own mask) text) ≡ false)
          → row_fits (four own mask) is_none left (pieces_of (four own mask) text) ≡ false
      stopped zero more = row_full (four own mask) is_none text
      stopped (suc left) more =
          row_begins (four own mask) is_none left text ∙ more left (begin_digits (four own mask) left)

      later : (v : Bool) → ((place : ℕ) (digits : Digits)
          → in_row (four own mask) is_none place digits (pieces_of (four own mask) text) ≡ false)
          → (if v then ends (four own mask) place digits
          && row_fits (four own mask) is_none place (pieces_of (four own mask) text)
          else in_row (four own mask) is_none place (next_digits (four own mask) place digits b)
          (pieces_of (four own mask) text))
          ≡ false
      later true more =
          ap (λ t. ends (four own mask) place digits && t) (stopped place more)
          ∙ no_last (ends (four own mask) place digits)
      later false more = more place (next_digits (four own mask) place digits b)

      by : (v : Bool) → is_colon b ≡ v → (has_colon text ≡ true → (place : ℕ) (digits : Digits)
          → in_row (four own mask) is_none place digits (pieces_of (four own mask) text) ≡ false)
          → (if b == dot then ends (four own mask) place digits
          && row_fits (four own mask) is_none place (pieces_of (four own mask) text)
          else in_row (four own mask) is_none place (next_digits (four own mask) place digits b)
          (pieces_of (four own mask) text))
          ≡ false
      by true e more =
          let is : b ≡ colon = eqb-true b colon e in
          ap (λ c. if c == dot then ends (four own mask) place digits
          && row_fits (four own mask) is_none place (pieces_of (four own mask) text)
          else in_row (four own mask) is_none place (next_digits (four own mask) place digits c)
          (pieces_of (four own mask) text)) is
          ∙ ap (λ d. in_row (four own mask) is_none place d (pieces_of (four own mask) text)) (no_digit place digits)
          ∙ wrong_row place (pieces_of (four own mask) text)
      by false e more = later (b == dot) (more (ap (λ v. v || has_colon text) (sym e) ∙ has))

  pub four_is : own < 2 ^ 32 → (text : List ℕ)
      → whole_texts (four own mask) text ≡ in_network (record { addr = V4 own; mask = mask }) text
  four_is small text = by (has_colon text) refl
    where
      other : (found : Option ℕ) → is_in (record { addr = V4 own; mask = mask }) (option_map V6 found) ≡ false
      other None = refl
      other (Some a) = refl

      same : (found : Option ℕ) → passes (λ a. same_under mask a own) found
          ≡ is_in (record { addr = V4 own; mask = mask }) (option_map V4 found)
      same None = refl
      same (Some a) = refl

      by : (v : Bool) → has_colon text ≡ v
          → whole_texts (four own mask) text
          ≡ is_in (record { addr = V4 own; mask = mask }) (if v then option_map V6 (v6_of text)
          else option_map V4 (v4_of text))
      by true e =
          row_begins (four own mask) is_none 3 text ∙ no_colon text e 3 (begin_digits (four own mask) 3)
          ∙ sym (other (v6_of text))
      by false e =
          whole_valued (four own mask) (div-eq_of_lt small) text ∙ same (v4_of text)

-- ---- IPv6

-- A row with an empty piece has no address.
empty_row : (sought : Sought) → sought.family ≡ Six → (end : ℕ → Bool) (left : ℕ) (pieces : List (List ℕ))
    → list_any is_nothing pieces ≡ true → row_fits sought end left pieces ≡ false
empty_row sought is end left [] has = cc
empty_row sought is end zero (piece ∷ pieces) has = refl
empty_row sought is end (suc place) ([] ∷ pieces) has =
    ap (λ t. t && row_fits sought end place pieces) (ap (λ f. passes (fits_at sought place) (number_in f [])) is)
empty_row sought is end (suc place) ((b ∷ text) ∷ pieces) has =
    ap (λ t. number_fits sought place (b ∷ text) && t) (empty_row sought is end place pieces has)
    ∙ no_last (number_fits sought place (b ∷ text))

abbrev behind_first : List (List ℕ) → List (List ℕ)
behind_first [] = []
behind_first (piece ∷ pieces) = pieces

empty_later : (pieces : List (List ℕ)) → list_any is_nothing (behind_first pieces) ≡ true
    → list_any is_nothing pieces ≡ true
empty_later [] has = has
empty_later ([] ∷ pieces) has = refl
empty_later ((b ∷ text) ∷ pieces) has = has

behind_onto : (b : ℕ) (pieces : List (List ℕ)) → behind_first (onto_first b pieces) ≡ behind_first pieces
behind_onto b [] = refl
behind_onto b (piece ∷ pieces) = refl

-- Between the colons of `::` is an empty piece.
empty_behind : (text : List ℕ) (at : ℕ) → gap_of text ≡ Some at
    → list_any is_nothing (behind_first (slice_split is_colon text)) ≡ true
empty_behind [] at is = cc
empty_behind (b ∷ text) at is = by (begins_with_gap (b ∷ text)) refl is (empty_behind text)
  where
    here : (text : List ℕ) → begins_with_gap (b ∷ text) ≡ true
        → list_any is_nothing (behind_first (slice_split is_colon (b ∷ text))) ≡ true
    here [] e = cc
    here (d ∷ text) e =
        let p = and_parts (is_colon b) (is_colon d) e in
        ap (λ v. list_any is_nothing (behind_first (if v then [] ∷ slice_split is_colon (d ∷ text)
        else onto_first b (slice_split is_colon (d ∷ text))))) p.0
        ∙ ap (λ v. list_any is_nothing (if v then [] ∷ slice_split is_colon text
        else onto_first d (slice_split is_colon text))) p.1

    later : (v : Bool) → list_any is_nothing (behind_first (slice_split is_colon text)) ≡ true
        → list_any is_nothing (behind_first (if v then [] ∷ slice_split is_colon text
        else onto_first b (slice_split is_colon text))) ≡ true
    later true has = empty_later (slice_split is_colon text) has
    later false has = ap (λ pieces. list_any is_nothing pieces) (behind_onto b (slice_split is_colon text)) ∙ has

    found_later : (found : Option ℕ) → gap_of text ≡ found → option_map (λ at. at + 1) found ≡ Some at
        → ((at : ℕ) → gap_of text ≡ Some at → list_any is_nothing (behind_first (slice_split is_colon text))
        ≡ true)
        → list_any is_nothing (behind_first (slice_split is_colon (b ∷ text))) ≡ true
    found_later None e same more = cc
    found_later (Some k) e same more = later (is_colon b) (more k e)

    by : (v : Bool) → begins_with_gap (b ∷ text) ≡ v
        → (if v then Some 0 else option_map (λ at. at + 1) (gap_of text)) ≡ Some at
        → ((at : ℕ) → gap_of text ≡ Some at → list_any is_nothing (behind_first (slice_split is_colon text))
        ≡ true)
        → list_any is_nothing (behind_first (slice_split is_colon (b ∷ text))) ≡ true
    by true e same more = here text e
    by false e same more = found_later (gap_of text) refl same more

no_gap_at_all : (text : List ℕ) → has_colon text ≡ false → gap_of text ≡ None
no_gap_at_all [] lacks = refl
no_gap_at_all (b ∷ text) lacks =
    let p = or_parts (is_colon b) (has_colon text) lacks in
    ap (λ v. if v then Some 0 else option_map (λ at. at + 1) (gap_of text)) (no_gap b text p.0)
    ∙ ap (λ found. option_map (λ at. at + 1) found) (no_gap_at_all text p.1)

one_piece : (text : List ℕ) → has_colon text ≡ false → slice_split is_colon text ≡ text ∷ []
one_piece [] lacks = refl
one_piece (b ∷ text) lacks =
    let p = or_parts (is_colon b) (has_colon text) lacks in
    ap (λ v. if v then [] ∷ slice_split is_colon text else onto_first b (slice_split is_colon text)) p.0
    ∙ ap (λ pieces. onto_first b pieces) (one_piece text p.1)

or_none : (v : Bool) → (v || false) ≡ v
or_none true = refl
or_none false = refl

lt_suc : (a b : ℕ) → (nat_lt a b || (a == b)) ≡ nat_lt a (suc b)
lt_suc a b = by (nat_lt a b) refl (a == b) refl
  where
    by : (v : Bool) → nat_lt a b ≡ v → (w : Bool) → (a == b) ≡ w → (v || w) ≡ nat_lt a (suc b)
    by true p w q = sym (lt-ltb a (suc b) (omega (arith, ltb-true a b p)))
    by false p true q = sym (lt-ltb a (suc b) (omega (arith, eqb-true a b q)))
    by false p false q =
        sym (false_from_ne_true (nat_lt a (suc b))
        (λ below. eqb-false a b q (omega (arith, ltb-false a b p, ltb-true a (suc b) below))))

-- The row has fewer numbers.
abbrev counted : ℕ → Option NumberRow → Bool
counted most None = false
counted most (Some row) = nat_lt row.count most

none_counted : (after : Option NumberRow) → counted 0 after ≡ false
none_counted None = refl
none_counted (Some row) = false_from_ne_true (nat_lt row.count 0) (λ e. omega (arith, ltb-true row.count 0 e))

one_counted : (most : ℕ) (after : Option NumberRow) (x : Bool)
    → ((counted most after && x) || (has_count most after && x)) ≡ (counted (suc most) after && x)
one_counted most None x = refl
one_counted most (Some row) x =
    shared (nat_lt row.count most) (row.count == most) x ∙ ap (λ t. t && x) (lt_suc row.count most)
  where
    shared : (v w x : Bool) → ((v && x) || (w && x)) ≡ ((v || w) && x)
    shared true true true = refl
    shared true true false = refl
    shared true false true = refl
    shared true false false = refl
    shared false w x = refl

all_counted : (test : ℕ → Bool) (before after : Option NumberRow)
    → (counted 8 after && passes test (around before after)) ≡ passes test (around before after)
all_counted test None after = no_last (counted 8 after)
all_counted test (Some before) None = refl
all_counted test (Some before) (Some after) = by (nat_lt (before.count + after.count) 8) refl
  where
    by : (v : Bool) → nat_lt (before.count + after.count) 8 ≡ v
        → (nat_lt after.count 8
        && passes test (if v then Some (before.value * 65536 ^ (8 - before.count) + after.value) else None))
        ≡ passes test (if v then Some (before.value * 65536 ^ (8 - before.count) + after.value) else None)
    by true e =
        ap (λ t. t && test (before.value * 65536 ^ (8 - before.count) + after.value))
        (lt-ltb after.count 8 (omega (arith, ltb-true (before.count + after.count) 8 e)))
    by false e = no_last (nat_lt after.count 8)

module _ (own mask : ℕ) (small : own < 2 ^ 128) where
  abbrev network : Net
  network = record { addr = V6 own; mask = mask }

  abbrev same : ℕ → Bool
  same a = same_under mask a own

  ungapped : (most : ℕ) (text : List ℕ) → gap_of text ≡ None
      → six_texts own mask most text ≡ whole_texts (six own mask 0) text
  ungapped zero text is = refl
  ungapped (suc behind) text is =
      ap₂ (λ v found. v || parted (front_fits (six own mask behind)) (back_fits (six own mask behind)) text found)
      (ungapped behind text is) is
      ∙ or_none (whole_texts (six own mask 0) text)

  -- What the address is between whose groups `::` stands at this place.
  abbrev gap_value : List ℕ → ℕ → Bool
  gap_value text at = passes same (around (side_of (take at text)) (side_of (drop (at + 2) text)))

  with_gaps : (most : ℕ) (text : List ℕ) (at : ℕ) → most ≤ 8 → gap_of text ≡ Some at
      → six_texts own mask most text ≡ (counted most (side_of (drop (at + 2) text)) && gap_value text at)
  with_gaps zero text at few is =
      empty_row (six own mask 0) refl is_none 8 (slice_split is_colon text)
      (empty_later (slice_split is_colon text) (empty_behind text at is))
      ∙ ap (λ t. t && gap_value text at) (sym (none_counted (side_of (drop (at + 2) text))))
  with_gaps (suc behind) text at few is =
      ap₂ (λ v found. v || parted (front_fits (six own mask behind)) (back_fits (six own mask behind)) text found)
      (with_gaps behind text at (omega arith) is) is
      ∙ ap (λ v. (counted behind (side_of (drop (at + 2) text)) && gap_value text at) || v)
      (sides_valued mask own behind (div-eq_of_lt small) (omega arith) (take at text) (drop (at + 2) text))
      ∙ one_counted behind (side_of (drop (at + 2) text)) (gap_value text at)

  is_same : (found : Option ℕ) → passes same found ≡ is_in network (option_map V6 found)
  is_same None = refl
  is_same (Some a) = refl

  no_four : (found : Option ℕ) → false ≡ is_in network (option_map V4 found)
  no_four None = refl
  no_four (Some a) = refl

  with_colon : (text : List ℕ) → six_texts own mask 8 text ≡ passes same (v6_of text)
  with_colon text = by (gap_of text) refl
    where
      by : (found : Option ℕ) → gap_of text ≡ found → six_texts own mask 8 text
          ≡ passes same (v6_at text found)
      by None is = ungapped 8 text is ∙ whole_valued (six own mask 0) (div-eq_of_lt small) text
      by (Some at) is =
          with_gaps 8 text at (omega arith) is
          ∙ all_counted same (side_of (take at text)) (side_of (drop (at + 2) text))

  without_colon : (text : List ℕ) → has_colon text ≡ false → six_texts own mask 8 text ≡ false
  without_colon text lacks =
      ungapped 8 text (no_gap_at_all text lacks)
      ∙ ap (λ pieces. row_fits (six own mask 0) is_none 8 pieces) (one_piece text lacks)
      ∙ no_last (number_fits (six own mask 0) 7 text)

  pub six_is : (text : List ℕ) → six_texts own mask 8 text
      ≡ in_network (record { addr = V6 own; mask = mask }) text
  six_is text = by (has_colon text) refl
    where
      by : (v : Bool) → has_colon text ≡ v
          → six_texts own mask 8 text
          ≡ is_in network (if v then option_map V6 (v6_of text) else option_map V4 (v4_of text))
      by true e = with_colon text ∙ is_same (v6_of text)
      by false e = without_colon text e ∙ no_four (v4_of text)
