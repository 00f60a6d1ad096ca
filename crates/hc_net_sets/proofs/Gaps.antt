-- Groups around `::` that may stand where they stand, and the address that they make.
use Rattle.hc_net_sets.proofs.Common.{◌≡◌, ℕ, zero, suc, ◌+◌, ◌-◌, ◌*◌, ◌/◌, ◌%◌, ◌^◌}
use Rattle.hc_net_sets.proofs.Common.{◌<◌, ◌≤◌, ◌==◌, ◌&&◌, Bool, true}
use Rattle.hc_net_sets.proofs.Common.{false, refl, sym, ◌∙◌, ap, ap₂, arith, List, [], ◌∷◌, length}
use Rattle.hc_net_sets.proofs.Common.{Option, Some, None}
use Rattle.hc_net_sets.proofs.Common.{nat_le, nat_lt, if◌then◌else◌}
use Rattle.hc_net_sets.proofs.Bits.{same_zeros}
use Rattle.hc_net_sets.proofs.Numbers.{no_last}
use Rattle.hc_net_sets.proofs.Pieces.{row_full}
use Rattle.hc_net_sets.proofs.Values.{all_read, none_read, row_end, same_top, valued}
use Rattle.std.proofs.Math.Bool.{and-true}
use Rattle.std.proofs.Common.{mul_assoc}
use Rattle.std.proofs.Math.Nat.{pow-suc, pow-zero}
use Rattle.std.proofs.lemmas.Bool.{eqb-false, eqb-true, false_from_ne_true, leb-true, le-leb}
use Rattle.std.proofs.lemmas.Bool.{ltb-false, ltb-true, lt-ltb, ne_eqb}
use Rattle.std.proofs.lemmas.Nat.{pow-add}
use Rattle.std.specs.Int.Digits.{number_from_digits, number_from_digits_after}
use Rattle.std.specs.List.{slice_split}
use Rattle.hc_addr.specs.Addresses.{around, side_of}
use Rattle.hc_addr.specs.Networks.{same_under}
use Rattle.hc_addr.specs.Numbers.{group_of, is_colon, numbers_of, row_of}
use Rattle.hc_addr.specs.declared.numbers.NumberRow.{NumberRow}
use Rattle.hc_net_sets.specs.Rows.{back_fits, back_from, front_fits, is_none, passes, pieces_of, row_fits}
use Rattle.hc_net_sets.specs.Sought.{zeros_fit}
use Rattle.hc_net_sets.specs.declared.sought.Family.TheVariants.{Six}
use Rattle.hc_net_sets.specs.declared.sought.Sought.{Sought}

-- ---- the numbers of a side

numbers_on : List ℕ → Option (List ℕ)
numbers_on [] = Some []
numbers_on (b ∷ text) = numbers_of group_of (slice_split is_colon (b ∷ text))

side_is : (text : List ℕ) → side_of text ≡ row_of 65536 8 (numbers_on text)
unfolding numbers_on
side_is [] = refl
side_is (b ∷ text) = refl

apart : (n base d power rest : ℕ)
    → (n * base + d) * power + rest ≡ n * (power * base) + ((0 * base + d) * power + rest)
apart n base d power rest = grind arith

-- A number's digits before others are those of a product.
digits_after : (base n : ℕ) (ds : List ℕ)
    → number_from_digits_after base n ds ≡ n * base ^ length ds + number_from_digits_after base 0 ds
digits_after base n [] = let e : n ≡ n * 1 + 0 = omega arith in e ∙ ap (λ p. n * p + 0) (sym (pow-zero base))
digits_after base n (d ∷ ds) =
    digits_after base (n * base + d) ds
    ∙ (let e : (n * base + d) * base ^ length ds + number_from_digits_after base 0 ds
    ≡ n * (base ^ length ds * base)
    + ((0 * base + d) * base ^ length ds + number_from_digits_after base 0 ds) =
    apart n base d (base ^ length ds) (number_from_digits_after base 0 ds) in e)
    ∙ ap₂ (λ a b. n * a + b) (sym (pow-suc base (length ds))) (sym (digits_after base (0 * base + d) ds))

-- The row has so many numbers.
abbrev pub has_count : ℕ → Option NumberRow → Bool
has_count count None = false
has_count count (Some row) = row.count == count

module _ (mask own behind : ℕ) where
  abbrev sought : Sought
  sought = record { family = Six; own = own; mask = mask; behind = behind }

  abbrev same : ℕ → Bool
  same a = same_under mask a own

  back_valued : (left v : ℕ) (text : List ℕ)
      → (same_top sought left v && back_from sought left text) ≡ row_end sought is_none left v (numbers_on text)
  unfolding numbers_on
  back_valued zero v [] = refl
  back_valued zero v (b ∷ text) =
      ap (λ t. same_top sought zero v && t) (sym (row_full sought is_none (b ∷ text)))
      ∙ valued sought is_none (pieces_of sought (b ∷ text)) zero v
  back_valued (suc place) v [] =
      no_last (same_top sought (suc place) v)
      ∙ sym (ap₂ (λ t k. t && (same_top sought k v && (k == 0))) (le-leb 0 (suc place) (omega arith))
      (let e : suc place - 0 ≡ suc place = omega arith in e)
      ∙ ap (λ t. same_top sought (suc place) v && t) (ne_eqb (suc place) 0 (λ e. omega (arith, e)))
      ∙ no_last (same_top sought (suc place) v))
  back_valued (suc place) v (b ∷ text) = valued sought is_none (pieces_of sought (b ∷ text)) (suc place) v

  module _ (small : own / 65536 ^ 8 ≡ 0) where
    front_valued : (text : List ℕ) → front_fits sought text
        ≡ row_end sought (zeros_fit sought) 8 0 (numbers_on text)
    unfolding numbers_on
    front_valued [] = ap (λ t. t && zeros_fit sought 8) (sym (none_read sought 8 small))
    front_valued (b ∷ text) =
        ap (λ t. t && row_fits sought (zeros_fit sought) 8 (pieces_of sought (b ∷ text)))
        (sym (none_read sought 8 small))
        ∙ valued sought (zeros_fit sought) (pieces_of sought (b ∷ text)) 8 0

    -- The rest behind so many numbers of a front.
    abbrev rest_of : ℕ → ℕ → List ℕ → Bool
    rest_of left v text = nat_lt behind left
        && (same_top sought behind (v * 65536 ^ (left - behind)) && back_from sought behind text)

    -- Groups of zeros between both sides.
    zeros_between : (left v : ℕ) (text : List ℕ)
        → ((same_top sought left v && zeros_fit sought left) && back_fits sought text) ≡ rest_of left v text
    zeros_between left v text = by (nat_lt behind left) refl
      where
        none : (x y : Bool) → ((x && false) && y) ≡ false
        none true y = refl
        none false y = refl

        by : (w : Bool) → nat_lt behind left ≡ w
            → ((same_top sought left v && (w && same_under (mask / 65536 ^ behind % 65536 ^ (left - behind)) 0
            (own / 65536 ^ behind % 65536 ^ (left - behind)))) && back_fits sought text)
            ≡ (w && (same_top sought behind (v * 65536 ^ (left - behind)) && back_from sought behind text))
        by true e =
            ap (λ t. t && back_fits sought text)
            (sym (same_zeros mask own behind left v (omega (arith, ltb-true behind left e))))
        by false e = none (same_top sought left v) (back_fits sought text)

    -- The numbers of both sides, and those of the back alone.
    abbrev both_end : ℕ → ℕ → List ℕ → Bool
    both_end left v ms = nat_lt behind left
        && (nat_le (length ms) behind
        && (same_top sought (behind - length ms) (number_from_digits_after 65536 (v * 65536 ^ (left - behind)) ms)
        && ((behind - length ms) == 0)))

    abbrev row_at : List ℕ → NumberRow
    row_at ns = record { value = number_from_digits 65536 ns; count = length ns }

    -- v * 65536 ^ (left - behind) with so many numbers behind it.
    moved : (a b v number : ℕ) (ms : List ℕ) → length ms ≡ b → a + b < 8
        → number_from_digits_after 65536 (v * 65536 ^ (8 - a - b)) ms
        ≡ v * 65536 ^ (8 - a) + number_from_digits 65536 ms
    moved a b v number ms count room =
        let e : 8 - a - b + b ≡ 8 - a = omega arith in
        let split = pow-add 65536 (8 - a - b) b in
        digits_after 65536 (v * 65536 ^ (8 - a - b)) ms
        ∙ ap (λ k. v * 65536 ^ (8 - a - b) * 65536 ^ k + number_from_digits 65536 ms) count
        ∙ ap (λ n. n + number_from_digits 65536 ms)
        (mul_assoc v (65536 ^ (8 - a - b)) (65536 ^ b) ∙ ap (λ p. v * p) (sym split ∙ ap (λ k. 65536 ^ k) e))

    no_middle : (x y : Bool) → (x && (y && false)) ≡ false
    no_middle true true = refl
    no_middle true false = refl
    no_middle false y = refl

    ended_in : behind < 8 → (ns ms : List ℕ) → length ns ≤ 8 → length ms ≡ behind
        → both_end (8 - length ns) (number_from_digits 65536 ns) ms
        ≡ passes same (around (Some (row_at ns)) (Some (row_at ms)))
    ended_in few ns ms most is = by (nat_lt (length ns + length ms) 8) refl
      where
        tail : length ns + length ms < 8
            → (nat_le (length ms) behind
            && (same_top sought (behind - length ms)
            (number_from_digits_after 65536 (number_from_digits 65536 ns * 65536 ^ (8 - length ns - behind)) ms)
            && ((behind - length ms) == 0)))
            ≡ same (number_from_digits 65536 ns * 65536 ^ (8 - length ns) + number_from_digits 65536 ms)
        tail room =
            ap₂ (λ t k. t && (same_top sought k
            (number_from_digits_after 65536 (number_from_digits 65536 ns * 65536 ^ (8 - length ns - behind)) ms)
            && (k == 0))) (le-leb (length ms) behind (omega arith))
            (let e : behind - length ms ≡ 0 = omega arith in e)
            ∙ and-true (same_top sought 0
            (number_from_digits_after 65536 (number_from_digits 65536 ns * 65536 ^ (8 - length ns - behind)) ms))
            ∙ all_read sought _
            ∙ ap same (moved (length ns) behind (number_from_digits 65536 ns) 0 ms is (omega arith))

        by : (v : Bool) → nat_lt (length ns + length ms) 8 ≡ v
            → both_end (8 - length ns) (number_from_digits 65536 ns) ms
            ≡ passes same (if v then Some (number_from_digits 65536 ns * 65536 ^
            (8 - length ns) + number_from_digits 65536 ms)
            else None)
        by true e =
            let room = ltb-true (length ns + length ms) 8 e in
            ap (λ t. t && (nat_le (length ms) behind
            && (same_top sought (behind - length ms)
            (number_from_digits_after 65536 (number_from_digits 65536 ns * 65536 ^ (8 - length ns - behind)) ms)
            && ((behind - length ms) == 0)))) (lt-ltb behind (8 - length ns) (omega arith))
            ∙ tail room
        by false e =
            ap (λ t. t && (nat_le (length ms) behind
            && (same_top sought (behind - length ms)
            (number_from_digits_after 65536 (number_from_digits 65536 ns * 65536 ^ (8 - length ns - behind)) ms)
            && ((behind - length ms) == 0))))
            (false_from_ne_true (nat_lt behind (8 - length ns))
            (λ more. omega (arith, ltb-true behind (8 - length ns) more, ltb-false (length ns + length ms) 8 e)))

    -- Another count of numbers behind `::`.
    other_count : (left v : ℕ) (ms : List ℕ) → (length ms == behind) ≡ false → both_end left v ms ≡ false
    other_count left v ms other = by (nat_le (length ms) behind) refl
      where
        wide : (x y z : Bool) → (x && (y && (z && false))) ≡ false
        wide true true true = refl
        wide true true false = refl
        wide true false z = refl
        wide false y z = refl

        narrow : (x y : Bool) → (x && (false && y)) ≡ false
        narrow true y = refl
        narrow false y = refl

        by : (w : Bool) → nat_le (length ms) behind ≡ w
            → (nat_lt behind left
            && (w && (same_top sought (behind - length ms)
            (number_from_digits_after 65536 (v * 65536 ^ (left - behind)) ms)
            && ((behind - length ms) == 0)))) ≡ false
        by true e =
            ap (λ t. nat_lt behind left && (true && (same_top sought (behind - length ms)
            (number_from_digits_after 65536 (v * 65536 ^ (left - behind)) ms) && t)))
            (ne_eqb (behind - length ms) 0 (λ none. eqb-false (length ms) behind other
            (omega (arith, leb-true (length ms) behind e))))
            ∙ wide (nat_lt behind left) true (same_top sought (behind - length ms)
            (number_from_digits_after 65536 (v * 65536 ^ (left - behind)) ms))
        by false e =
            narrow (nat_lt behind left) (same_top sought (behind - length ms)
            (number_from_digits_after 65536 (v * 65536 ^ (left - behind)) ms) && ((behind - length ms) == 0))

    -- Both sides by their numbers.
    abbrev rest_end : ℕ → ℕ → Option (List ℕ) → Bool
    rest_end left v None = false
    rest_end left v (Some ms) = both_end left v ms

    abbrev sides_end : Option (List ℕ) → Option (List ℕ) → Bool
    sides_end None after = false
    sides_end (Some ns) after = nat_le (length ns) 8 && rest_end (8 - length ns) (number_from_digits 65536 ns) after

    rest_valued : (left v : ℕ) (text : List ℕ) → rest_of left v text ≡ rest_end left v (numbers_on text)
    rest_valued left v text =
        ap (λ t. nat_lt behind left && t) (back_valued behind (v * 65536 ^ (left - behind)) text)
        ∙ by (numbers_on text)
      where
        by : (after : Option (List ℕ))
            → (nat_lt behind left && row_end sought is_none behind (v * 65536 ^ (left - behind)) after)
            ≡ rest_end left v after
        by None = no_last (nat_lt behind left)
        by (Some ms) = refl

    and_joined : (x y z : Bool) → ((x && y) && z) ≡ (x && (y && z))
    and_joined true y z = refl
    and_joined false y z = refl

    front_end : (before : Option (List ℕ)) (text : List ℕ)
        → (row_end sought (zeros_fit sought) 8 0 before && back_fits sought text)
        ≡ sides_end before (numbers_on text)
    front_end None text = refl
    front_end (Some ns) text =
        and_joined (nat_le (length ns) 8)
        (same_top sought (8 - length ns) (number_from_digits 65536 ns) && zeros_fit sought (8 - length ns))
        (back_fits sought text)
        ∙ ap (λ t. nat_le (length ns) 8 && t)
        (zeros_between (8 - length ns) (number_from_digits 65536 ns) text
        ∙ rest_valued (8 - length ns) (number_from_digits 65536 ns) text)

    abbrev joined_sides : Option (List ℕ) → Option (List ℕ) → Bool
    joined_sides before after =
        has_count behind (row_of 65536 8 after) && passes same (around (row_of 65536 8 before) (row_of 65536 8 after))

    sides_are : behind < 8 → (before after : Option (List ℕ)) → sides_end before after
        ≡ joined_sides before after
    sides_are few None after = sym (no_last (has_count behind (row_of 65536 8 after)))
    sides_are few (Some ns) None = no_last (nat_le (length ns) 8)
    sides_are few (Some ns) (Some ms) = by (nat_le (length ns) 8) refl
      where
        uncounted : (v : Bool) (x : Bool) → (length ms == behind) ≡ false
            → (has_count behind (if v then Some (row_at ms) else None) && x) ≡ false
        uncounted true x other = ap (λ t. t && x) other
        uncounted false x other = refl

        counted : (w : Bool) → (length ms == behind) ≡ w → length ns ≤ 8
            → both_end (8 - length ns) (number_from_digits 65536 ns) ms
            ≡ (has_count behind (if nat_le (length ms) 8 then Some (row_at ms) else None)
            && passes same (around (Some (row_at ns)) (if nat_le (length ms) 8 then Some (row_at ms) else None)))
        counted true is most =
            ended_in few ns ms most (eqb-true (length ms) behind is)
            ∙ ap (λ t. t && passes same (around (Some (row_at ns)) (Some (row_at ms)))) (sym is)
            ∙ ap (λ v. has_count behind (if v then Some (row_at ms) else None)
            && passes same (around (Some (row_at ns)) (if v then Some (row_at ms) else None)))
            (sym (le-leb (length ms) 8 (omega (arith, eqb-true (length ms) behind is))))
        counted false other most =
            other_count (8 - length ns) (number_from_digits 65536 ns) ms other
            ∙ sym (uncounted (nat_le (length ms) 8)
            (passes same (around (Some (row_at ns)) (if nat_le (length ms) 8 then Some (row_at ms) else None))) other)

        by : (v : Bool) → nat_le (length ns) 8 ≡ v
            → (v && both_end (8 - length ns) (number_from_digits 65536 ns) ms)
            ≡ (has_count behind (if nat_le (length ms) 8 then Some (row_at ms) else None)
            && passes same (around (if v then Some (row_at ns) else None)
            (if nat_le (length ms) 8 then Some (row_at ms) else None)))
        by true e = counted (length ms == behind) refl (leb-true (length ns) 8 e)
        by false e =
            sym (no_last (has_count behind (if nat_le (length ms) 8 then Some (row_at ms) else None)))

    pub sides_valued : behind < 8 → (front back : List ℕ)
        → (front_fits sought front && back_fits sought back)
        ≡ (has_count behind (side_of back) && passes same (around (side_of front) (side_of back)))
    sides_valued few front back =
        ap (λ t. t && back_fits sought back) (front_valued front)
        ∙ front_end (numbers_on front) back
        ∙ sides_are few (numbers_on front) (numbers_on back)
        ∙ ap₂ (λ before after. has_count behind after && passes same (around before after)) (sym (side_is front))
        (sym (side_is back))
