-- Numbers that may stand where they stand, and the address that they make.
use Rattle.hc_net_sets.proofs.Common.{◌≡◌, ℕ, zero, suc, ◌+◌, ◌-◌, ◌*◌, ◌/◌, ◌^◌, ◌<◌}
use Rattle.hc_net_sets.proofs.Common.{◌≤◌, ◌==◌, ◌&&◌, Bool, true}
use Rattle.hc_net_sets.proofs.Common.{false, refl, sym, ◌∙◌, ap, ap₂, subst, arith, List, [], ◌∷◌}
use Rattle.hc_net_sets.proofs.Common.{length, Option, Some, None}
use Rattle.hc_net_sets.proofs.Common.{nat_le, nat_lt, if◌then◌else◌}
use Rattle.hc_net_sets.proofs.Bits.{same_more, same_self}
use Rattle.hc_net_sets.proofs.Numbers.{no_last, too_large}
use Rattle.std.proofs.Math.Bool.{and-true}
use Rattle.std.proofs.Math.Nat.{div-one, pow-zero}
use Rattle.std.proofs.lemmas.Bool.{and_parts, eqb-false, eqb-true, leb-false, leb-true, le-leb}
use Rattle.std.proofs.lemmas.Bool.{ltb-true, ne_eqb}
use Rattle.std.specs.Char.{digit_value, is_digit}
use Rattle.std.specs.Int.Digits.{number_from_digits, number_from_digits_after}
use Rattle.std.specs.List.{list_all}
use Rattle.std.specs.Str.Parse.{digits_value}
use Rattle.hc_addr.specs.Addresses.{whole}
use Rattle.hc_addr.specs.Networks.{same_under}
use Rattle.hc_addr.specs.Numbers.{at_most, group_of, number_of, numbers_of, row_of, with_first}
use Rattle.hc_addr.specs.declared.numbers.NumberRow.{NumberRow}
use Rattle.hc_net_sets.specs.Rows.{is_none, number_in, passes}
use Rattle.hc_net_sets.specs.Rows.{pieces_of, row_fits, whole_texts}
use Rattle.hc_net_sets.specs.Sought.{base_of, count_of, fits_at}
use Rattle.hc_net_sets.specs.declared.sought.Family.{Family}
use Rattle.hc_net_sets.specs.declared.sought.Family.TheVariants.{Four, Six}
use Rattle.hc_net_sets.specs.declared.sought.Sought.{Sought}

-- ---- a number is less than its base

below_at : (highest : ℕ) (found : Option ℕ) (n : ℕ) → at_most highest found ≡ Some n → n ≤ highest
below_at highest None n is = cc
below_at highest (Some k) n is = by (nat_le k highest) refl is
  where
    by : (v : Bool) → nat_le k highest ≡ v → (if v then Some k else None) ≡ Some n → n ≤ highest
    by true e same = let k-is : k ≡ n = cc in subst (λ m. m ≤ highest) k-is (leb-true k highest e)
    by false e same = cc

-- The digit and those behind it are digits.
digit_of : (b : ℕ) (rest : Bool) → (is_digit b 16 && rest) ≡ true → (digit_value b < 16) × (rest ≡ true)
digit_of b rest is = let p = and_parts (is_digit b 16) rest is in (ltb-true (digit_value b) 16 p.0, p.1)

taken : (v : Bool) (number n : ℕ) → (v ≡ true → number < 65536) → (if v then Some number else None)
    ≡ Some n → n < 65536
taken true number n small is = let same : number ≡ n = cc in subst (λ m. m < 65536) same (small refl)
taken false number n small is = cc

untaken : (x v : Bool) (number n : ℕ) → (if x && false && v then Some number else None) ≡ Some n → n < 65536
untaken true v number n is = cc
untaken false v number n is = cc

long : (count : ℕ) → 4 < count → (v : Bool) (number n : ℕ)
    → (if nat_lt 0 count && nat_le count 4 && v then Some number else None) ≡ Some n → n < 65536
long count many v number n is = untaken (nat_lt 0 count) v number n (rw (too_large count 4 many) at is)

group_below : (text : List ℕ) (n : ℕ) → group_of text ≡ Some n → n < 65536
group_below [] n is = cc
group_below (a ∷ []) n is = taken (list_all (λ b. is_digit b 16) (a ∷ [])) _ n
    (λ all. omega (arith, (digit_of a _ all).0)) is
group_below (a ∷ b ∷ []) n is = taken (list_all (λ b. is_digit b 16) (a ∷ b ∷ [])) _ n
    (λ all. let p = digit_of a _ all in omega (arith, p.0, (digit_of b _ p.1).0)) is
group_below (a ∷ b ∷ c ∷ []) n is = taken (list_all (λ b. is_digit b 16) (a ∷ b ∷ c ∷ [])) _ n
    (λ all. let p = digit_of a _ all in let q = digit_of b _ p.1 in omega (arith, p.0, q.0, (digit_of c _ q.1).0)) is
group_below (a ∷ b ∷ c ∷ d ∷ []) n is = taken (list_all (λ b. is_digit b 16) (a ∷ b ∷ c ∷ d ∷ [])) _ n
    (λ all. let p = digit_of a _ all in let q = digit_of b _ p.1 in let r = digit_of c _ q.1 in
    omega (arith, p.0, q.0, r.0, (digit_of d _ r.1).0)) is
group_below (a ∷ b ∷ c ∷ d ∷ e ∷ text) n is =
    long (length (a ∷ b ∷ c ∷ d ∷ e ∷ text)) (omega arith) (list_all (λ b. is_digit b 16)
    (a ∷ b ∷ c ∷ d ∷ e ∷ text))
    (digits_value 16 (a ∷ b ∷ c ∷ d ∷ e ∷ text)) n is

number_below : (family : Family) (text : List ℕ) (n : ℕ) → number_in family text ≡ Some n → n < base_of family
number_below Four text n is = let k = below_at 255 (number_of 10 3 text) n is in omega arith
number_below Six text n is = group_below text n is

leb_suc : (a b : ℕ) → nat_le (suc a) (suc b) ≡ nat_le a b
leb_suc a b = by (nat_le a b) refl
  where
    by : (v : Bool) → nat_le a b ≡ v → nat_le (suc a) (suc b) ≡ v
    by true e = le-leb (suc a) (suc b) (omega (arith, leb-true a b e))
    by false e = too_large (suc a) (suc b) (omega (arith, leb-false a b e))

and_moved : (a b c : Bool) → (a && (b && c)) ≡ ((a && b) && c)
and_moved true b c = refl
and_moved false b c = refl

-- ---- rows

module _ (sought : Sought) where
  -- The numbers so far are the network's, where so many are left.
  abbrev pub same_top : ℕ → ℕ → Bool
  same_top left v =
      same_under (sought.mask / base_of sought.family ^ left) v (sought.own / base_of sought.family ^ left)

  -- The same by the numbers of a row behind them.
  abbrev pub row_end : (ℕ → Bool) → ℕ → ℕ → Option (List ℕ) → Bool
  row_end end left v None = false
  row_end end left v (Some ns) =
      nat_le (length ns) left
      && (same_top (left - length ns) (number_from_digits_after (base_of sought.family) v ns) && end (left - length ns))

  crowded : (end : ℕ → Bool) (v : ℕ) (first : Option ℕ) (rest : Option (List ℕ))
      → row_end end zero v (with_first first rest) ≡ false
  crowded end v None rest = refl
  crowded end v (Some n) None = refl
  crowded end v (Some n) (Some ns) =
      ap (λ t. t && (same_top (0 - suc (length ns)) (number_from_digits_after (base_of sought.family) v (n ∷ ns))
      && end (0 - suc (length ns)))) (too_large (suc (length ns)) 0 (omega arith))

  one_more : (end : ℕ → Bool) (place v n : ℕ) (rest : Option (List ℕ))
      → row_end end place (v * base_of sought.family + n) rest
      ≡ row_end end (suc place) v (with_first (Some n) rest)
  one_more end place v n None = refl
  one_more end place v n (Some ns) =
      ap₂ (λ t k. t && (same_top k (number_from_digits_after (base_of sought.family) v (n ∷ ns)) && end k))
      (sym (leb_suc (length ns) place))
      (let e : place - length ns ≡ suc place - suc (length ns) = omega arith in e)

  pub valued : (end : ℕ → Bool) (pieces : List (List ℕ)) (left v : ℕ)
      → (same_top left v && row_fits sought end left pieces)
      ≡ row_end end left v (numbers_of (number_in sought.family) pieces)
  valued end [] left v =
      let e : left - 0 ≡ left = omega arith in
      sym (rw (le-leb 0 left (omega arith), e) refl)
  valued end (piece ∷ pieces) zero v =
      no_last (same_top zero v)
      ∙ sym (crowded end v (number_in sought.family piece) (numbers_of (number_in sought.family) pieces))
  valued end (piece ∷ pieces) (suc place) v =
      by (number_in sought.family piece) refl (valued end pieces place)
    where
      by : (found : Option ℕ) → number_in sought.family piece ≡ found
          → ((w : ℕ) → (same_top place w && row_fits sought end place pieces)
          ≡ row_end end place w (numbers_of (number_in sought.family) pieces))
          → (same_top (suc place) v && (passes (fits_at sought place) found && row_fits sought end place pieces))
          ≡ row_end end (suc place) v (with_first found (numbers_of (number_in sought.family) pieces))
      by None is more = no_last (same_top (suc place) v)
      by (Some n) is more =
          and_moved (same_top (suc place) v) (fits_at sought place n) (row_fits sought end place pieces)
          ∙ ap (λ t. t && row_fits sought end place pieces)
          (sym (same_more sought.family sought.mask sought.own place v n (number_below sought.family piece n is)))
          ∙ more (v * base_of sought.family + n)
          ∙ one_more end place v n (numbers_of (number_in sought.family) pieces)

  -- The address is the network's.
  abbrev pub same_as : ℕ → Bool
  same_as a = same_under sought.mask a sought.own

  pub all_read : (v : ℕ) → same_top 0 v ≡ same_as v
  all_read v =
      ap₂ (λ a b. same_under a v b) (top_all sought.mask) (top_all sought.own)
    where
      top_all : (whole : ℕ) → whole / base_of sought.family ^ 0 ≡ whole
      top_all whole = ap (λ d. whole / d) (pow-zero (base_of sought.family)) ∙ div-one whole

  pub none_read : (count : ℕ) → sought.own / base_of sought.family ^ count ≡ 0 → same_top count 0 ≡ true
  none_read count small = ap (λ o. same_under (sought.mask / base_of sought.family ^ count) 0 o) small
      ∙ same_self (sought.mask / base_of sought.family ^ count) 0

  all_there : (count : ℕ) (found : Option (List ℕ))
      → row_end is_none count 0 found ≡ passes same_as (whole count (row_of (base_of sought.family) count found))
  all_there count None = refl
  all_there count (Some ns) = by (nat_le (length ns) count) refl
    where
      enough : (v : Bool) → length ns == count ≡ v → length ns ≤ count
          → (same_top (count - length ns) (number_from_digits (base_of sought.family) ns)
          && ((count - length ns) == 0))
          ≡ passes same_as (if v then Some (number_from_digits (base_of sought.family) ns) else None)
      enough true e most =
          let left : count - length ns ≡ 0 = omega (arith, eqb-true (length ns) count e) in
          ap (λ k. same_top k (number_from_digits (base_of sought.family) ns) && (k == 0)) left
          ∙ and-true (same_top 0 (number_from_digits (base_of sought.family) ns))
          ∙ all_read (number_from_digits (base_of sought.family) ns)
      enough false e most =
          ap (λ t. same_top (count - length ns) (number_from_digits (base_of sought.family) ns) && t)
          (ne_eqb (count - length ns) 0 (λ none. eqb-false (length ns) count e (omega arith)))
          ∙ no_last (same_top (count - length ns) (number_from_digits (base_of sought.family) ns))

      by : (v : Bool) → nat_le (length ns) count ≡ v
          → (v && (same_top (count - length ns) (number_from_digits (base_of sought.family) ns)
          && ((count - length ns) == 0)))
          ≡ passes same_as (whole count (if v then Some (let row : NumberRow = record {
            value = number_from_digits (base_of sought.family) ns;
            count = length ns;
          } in row) else None))
      by true e = enough (length ns == count) refl (leb-true (length ns) count e)
      by false e = refl

  pub whole_valued : sought.own / base_of sought.family ^ count_of sought.family ≡ 0 → (text : List ℕ)
      → whole_texts sought text
      ≡ passes same_as (whole (count_of sought.family)
      (row_of (base_of sought.family) (count_of sought.family)
      (numbers_of (number_in sought.family) (pieces_of sought text))))
  whole_valued small text =
      ap (λ t. t && whole_texts sought text) (sym (none_read (count_of sought.family) small))
      ∙ valued is_none (pieces_of sought text) (count_of sought.family) 0
      ∙ all_there (count_of sought.family) (numbers_of (number_in sought.family) (pieces_of sought text))
