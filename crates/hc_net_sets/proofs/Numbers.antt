-- A number that is read digit by digit is one that may stand at its place.
use Rattle.hc_net_sets.proofs.Common.{◌≡◌, ℕ, suc, ◌+◌, ◌*◌, ◌/◌, ◌%◌, ◌^◌, ◌<◌}
use Rattle.hc_net_sets.proofs.Common.{◌≤◌, ◌&&◌, Bool, true}
use Rattle.hc_net_sets.proofs.Common.{false, refl, sym, ◌∙◌, ap, ap₂, arith, List, [], ◌∷◌, length}
use Rattle.hc_net_sets.proofs.Common.{Some, None}
use Rattle.hc_net_sets.proofs.Common.{nat_le, nat_lt, if◌then◌else◌, lit<}
use Rattle.hc_net_sets.proofs.Bits.{same_self, same_split}
use Rattle.std.proofs.Math.Nat.{div-div-eq-div-mul, div-one, div-eq_of_lt, mod-lt}
use Rattle.std.proofs.lemmas.Bool.{and_parts, false_from_ne_true, leb-false, leb-true, le-leb, ltb-false, ltb-true}
use Rattle.std.specs.Char.{digit_value, is_digit}
use Rattle.std.specs.List.{list_all}
use Rattle.std.specs.Str.Parse.{digits_value, digits_value_after}
use Rattle.hc_addr.specs.Networks.{same_under}
use Rattle.hc_addr.specs.Numbers.{at_most, byte_of, group_of}
use Rattle.hc_dfa.specs.Readings.{reading_from}
use Rattle.hc_net_sets.specs.Digits.{begin_digits, begin_group, begin_in, digit_fits, ends, next_digits}
use Rattle.hc_net_sets.specs.Digits.{with_byte_digit, with_group_digit}
use Rattle.hc_net_sets.specs.Rows.{number_fits, number_in, passes}
use Rattle.hc_net_sets.specs.Sought.{fits_at, number_at}
use Rattle.hc_net_sets.specs.declared.digits.Digits.{Digits}
use Rattle.hc_net_sets.specs.declared.digits.Digits.TheVariants.{Byte, Group, Wrong}
use Rattle.hc_net_sets.specs.declared.digits.Fits.{Fits}
use Rattle.hc_net_sets.specs.declared.sought.Family.{Family}
use Rattle.hc_net_sets.specs.declared.sought.Family.TheVariants.{Four, Six}
use Rattle.hc_net_sets.specs.declared.sought.Sought.{Sought}

no_third : (x y r : Bool) → ((x && y && false) && r) ≡ false
no_third true true r = refl
no_third true false r = refl
no_third false y r = refl

no_second : (x z r : Bool) → ((x && false && z) && r) ≡ false
no_second true z r = refl
no_second false z r = refl

pub no_last : (x : Bool) → (x && false) ≡ false
no_last true = refl
no_last false = refl

pub too_large : (n highest : ℕ) → highest < n → nat_le n highest ≡ false
too_large n highest more = false_from_ne_true (nat_le n highest) (λ e. omega (arith, leb-true n highest e))

module _ (sought : Sought) (place : ℕ) where
  -- The digits that were read, and this rest, write a number that may stand at the place.
  abbrev pub reads_on : Digits → List ℕ → Bool
  reads_on digits text = reading_from (next_digits sought place) (ends sought place) digits text

  wrong : (text : List ℕ) → reads_on Wrong text ≡ false
  wrong [] = refl
  wrong (b ∷ text) = wrong text

  -- ---- decimal digits

  abbrev byte_left : ℕ → ℕ → List ℕ → Bool
  byte_left count value text =
      (nat_lt 0 (count + length text) && nat_le (count + length text) 3 && list_all (λ b. is_digit b 10) text)
      && (nat_le (digits_value_after 10 value text) 255 && fits_at sought place (digits_value_after 10 value text))

  -- The same with one byte before the text, which is a digit or isn't.
  abbrev byte_rest : ℕ → ℕ → List ℕ → Bool → Bool
  byte_rest count number text v =
      (nat_lt 0 (count + suc (length text)) && nat_le (count + suc (length text)) 3
      && (v && list_all (λ b. is_digit b 10) text))
      && (nat_le (digits_value_after 10 number text) 255 && fits_at sought place (digits_value_after 10 number text))

  value_grows : (value : ℕ) (text : List ℕ) → value ≤ digits_value_after 10 value text
  value_grows value [] = omega arith
  value_grows value (b ∷ text) = omega (arith, value_grows (value * 10 + digit_value b) text)

  byte_from : (count value : ℕ) (text : List ℕ) → count ≤ 3 → value ≤ 255
      → reads_on (Byte count value) text ≡ byte_left count value text
  byte_from count value [] few small =
      let e : count + 0 ≡ count = omega arith in
      rw (e, le-leb count 3 few, le-leb value 255 small) (plain (nat_lt 0 count) (fits_at sought place value))
    where
      plain : (v w : Bool) → (v && w) ≡ ((v && true && true) && (true && w))
      plain true w = refl
      plain false w = refl
  byte_from count value (b ∷ text) few small =
      by (is_digit b 10) refl (byte_from (count + 1) (value * 10 + digit_value b) text)
    where
      room : (v : Bool) → nat_lt count 3 ≡ v → (w : Bool) → nat_le (value * 10 + digit_value b) 255 ≡ w
          → (count + 1 ≤ 3 → value * 10 + digit_value b ≤ 255
          → reads_on (Byte (count + 1) (value * 10 + digit_value b)) text
          ≡ byte_left (count + 1) (value * 10 + digit_value b) text)
          → reads_on (if v && w then Byte (count + 1) (value * 10 + digit_value b) else Wrong) text
          ≡ byte_rest count (value * 10 + digit_value b) text true
      room true p true q more =
          more (omega (arith, ltb-true count 3 p)) (leb-true (value * 10 + digit_value b) 255 q)
          ∙ ap (λ k. (nat_lt 0 k && nat_le k 3 && list_all (λ b. is_digit b 10) text)
          && (nat_le (digits_value_after 10 (value * 10 + digit_value b) text) 255
          && fits_at sought place (digits_value_after 10 (value * 10 + digit_value b) text)))
          (let e : count + 1 + length text ≡ count + suc (length text) = omega arith in e)
      room true p false q more =
          wrong text
          ∙ sym (rw (too_large (digits_value_after 10 (value * 10 + digit_value b) text) 255
          (omega (arith, leb-false (value * 10 + digit_value b) 255 q, value_grows (value * 10 + digit_value b) text)))
          (no_last (nat_lt 0 (count + suc (length text)) && nat_le (count + suc (length text)) 3
          && list_all (λ b. is_digit b 10) text)))
      room false p w q more =
          wrong text
          ∙ sym (rw (too_large (count + suc (length text)) 3 (omega (arith, ltb-false count 3 p)))
          (no_second (nat_lt 0 (count + suc (length text))) (list_all (λ b. is_digit b 10) text)
          (nat_le (digits_value_after 10 (value * 10 + digit_value b) text) 255
          && fits_at sought place (digits_value_after 10 (value * 10 + digit_value b) text))))

      by : (v : Bool) → is_digit b 10 ≡ v
          → (count + 1 ≤ 3 → value * 10 + digit_value b ≤ 255
          → reads_on (Byte (count + 1) (value * 10 + digit_value b)) text
          ≡ byte_left (count + 1) (value * 10 + digit_value b) text)
          → reads_on (if v then with_byte_digit count value (digit_value b) else Wrong) text
          ≡ byte_rest count (value * 10 + digit_value b) text v
      by true e more = room (nat_lt count 3) refl (nat_le (value * 10 + digit_value b) 255) refl more
      by false e more = wrong text ∙ sym (no_third (nat_lt 0 (count + suc (length text)))
          (nat_le (count + suc (length text)) 3)
          (nat_le (digits_value_after 10 (value * 10 + digit_value b) text) 255
          && fits_at sought place (digits_value_after 10 (value * 10 + digit_value b) text)))

  byte_read : (text : List ℕ) → reads_on (Byte 0 0) text ≡ passes (fits_at sought place) (byte_of text)
  byte_read text =
      byte_from 0 0 text (omega arith) (omega arith)
      ∙ ap (λ k. (nat_lt 0 k && nat_le k 3 && list_all (λ b. is_digit b 10) text)
      && (nat_le (digits_value 10 text) 255 && fits_at sought place (digits_value 10 text)))
      (let e : 0 + length text ≡ length text = omega arith in e)
      ∙ by (nat_lt 0 (length text) && nat_le (length text) 3 && list_all (λ b. is_digit b 10) text)
      (digits_value 10 text)
    where
      small : (w : Bool) (number : ℕ) → (w && fits_at sought place number)
          ≡ passes (fits_at sought place) (if w then Some number else None)
      small true number = refl
      small false number = refl

      by : (v : Bool) (number : ℕ) → (v && (nat_le number 255 && fits_at sought place number))
          ≡ passes (fits_at sought place) (at_most 255 (if v then Some number else None))
      by true number = small (nat_le number 255) number
      by false number = refl

  -- ---- hexadecimal digits

  module _ (below : number_at sought.family place sought.own < 65536) where
    abbrev mask : ℕ
    mask = number_at sought.family place sought.mask

    abbrev own : ℕ
    own = number_at sought.family place sought.own

    abbrev same_at : ℕ → ℕ → Bool
    same_at power n = same_under (mask / power) n (own / power)

    abbrev fit : ℕ → ℕ → Bool
    fit power digit = digit_fits mask own power digit

    group_more : (power next n digit : ℕ) → power * 16 ≡ next → digit < 16
        → same_at power (n * 16 + digit) ≡ (same_at next n && fit power digit)
    group_more power next n digit is few =
        same_split 4 (mask / power) n digit (own / power) few
        ∙ ap₂ (λ a b. same_under a n b && fit power digit)
        (div-div-eq-div-mul mask power 16 ∙ ap (λ d. mask / d) is)
        (div-div-eq-div-mul own power 16 ∙ ap (λ d. own / d) is)

    all_same : same_at 65536 0 ≡ true
    all_same = rw (div-eq_of_lt below) (same_self (mask / 65536) 0)

    at_one : (n : ℕ) → same_at 1 n ≡ fits_at sought place n
    at_one n = ap₂ (λ a b. same_under a n b) (div-one mask) (div-one own)

    one_digit : (a : ℕ) → a < 16 → (same_at 16 0 && fit 1 a) ≡ fits_at sought place (0 * 16 + a)
    one_digit a p = sym (group_more 1 16 0 a refl p) ∙ at_one (0 * 16 + a)

    two_digits : (a b : ℕ) → a < 16 → b < 16
        → ((same_at 256 0 && fit 16 a) && fit 1 b) ≡ fits_at sought place ((0 * 16 + a) * 16 + b)
    two_digits a b p q =
        ap (λ v. v && fit 1 b) (sym (group_more 16 256 0 a refl p))
        ∙ sym (group_more 1 16 (0 * 16 + a) b refl q) ∙ at_one ((0 * 16 + a) * 16 + b)

    three_digits : (a b c : ℕ) → a < 16 → b < 16 → c < 16
        → (((same_at 4096 0 && fit 256 a) && fit 16 b) && fit 1 c)
        ≡ fits_at sought place (((0 * 16 + a) * 16 + b) * 16 + c)
    three_digits a b c p q r =
        ap (λ v. (v && fit 16 b) && fit 1 c) (sym (group_more 256 4096 0 a refl p))
        ∙ ap (λ v. v && fit 1 c) (sym (group_more 16 256 (0 * 16 + a) b refl q))
        ∙ sym (group_more 1 16 ((0 * 16 + a) * 16 + b) c refl r) ∙ at_one (((0 * 16 + a) * 16 + b) * 16 + c)

    four_digits : (a b c d : ℕ) → a < 16 → b < 16 → c < 16 → d < 16
        → ((((true && fit 4096 a) && fit 256 b) && fit 16 c) && fit 1 d)
        ≡ fits_at sought place ((((0 * 16 + a) * 16 + b) * 16 + c) * 16 + d)
    four_digits a b c d p q r s =
        ap (λ v. (((v && fit 4096 a) && fit 256 b) && fit 16 c) && fit 1 d) (sym all_same)
        ∙ ap (λ v. ((v && fit 256 b) && fit 16 c) && fit 1 d) (sym (group_more 4096 65536 0 a refl p))
        ∙ ap (λ v. (v && fit 16 c) && fit 1 d) (sym (group_more 256 4096 (0 * 16 + a) b refl q))
        ∙ ap (λ v. v && fit 1 d) (sym (group_more 16 256 ((0 * 16 + a) * 16 + b) c refl r))
        ∙ sym (group_more 1 16 (((0 * 16 + a) * 16 + b) * 16 + c) d refl s)
        ∙ at_one ((((0 * 16 + a) * 16 + b) * 16 + c) * 16 + d)

    abbrev all_hex : List ℕ → Bool
    all_hex text = list_all (λ b. is_digit b 16) text

    abbrev fits_after : Fits → List ℕ → Fits
    fits_after fits [] = fits
    fits_after fits (b ∷ text) = fits_after (with_group_digit mask own fits (digit_value b)) text

    group_from : (fits : Fits) (text : List ℕ)
        → reads_on (Group fits) text ≡ (all_hex text && (fits_after fits text).none)
    group_from fits [] = refl
    group_from fits (b ∷ text) =
        by (is_digit b 16) (group_from (with_group_digit mask own fits (digit_value b)) text)
      where
        by : (v : Bool)
            → reads_on (Group (with_group_digit mask own fits (digit_value b))) text
            ≡ (all_hex text && (fits_after (with_group_digit mask own fits (digit_value b)) text).none)
            → reads_on (if v then Group (with_group_digit mask own fits (digit_value b)) else Wrong) text
            ≡ ((v && all_hex text) && (fits_after (with_group_digit mask own fits (digit_value b)) text).none)
        by true more = more
        by false more = wrong text

    -- No digit may follow these.
    full : (none : Bool) (b : ℕ) (text : List ℕ)
        → (fits_after (record { none = none; one = false; two = false; three = false; four = false })
        (b ∷ text)).none
        ≡ false
    full none b [] = refl
    full none b (c ∷ text) = full false c text

    judged : (v none : Bool) (number : ℕ) → (v ≡ true → none ≡ fits_at sought place number)
        → (v && none) ≡ passes (fits_at sought place) (if v then Some number else None)
    judged true none number is = is refl
    judged false none number is = refl

    -- The digit and those behind it are digits.
    digit_of : (b : ℕ) (rest : Bool) → (is_digit b 16 && rest) ≡ true → (digit_value b < 16) × (rest ≡ true)
    digit_of b rest is = let p = and_parts (is_digit b 16) rest is in (ltb-true (digit_value b) 16 p.0, p.1)

    none_long : (x v : Bool) (number : ℕ)
        → passes (fits_at sought place) (if x && false && v then Some number else None) ≡ false
    none_long true v number = refl
    none_long false v number = refl

    long : (count : ℕ) → 4 < count → (v : Bool) (number : ℕ)
        → passes (fits_at sought place) (if nat_lt 0 count && nat_le count 4 && v then Some number else None)
        ≡ false
    long count many v number = rw (too_large count 4 many) (none_long (nat_lt 0 count) v number)

    group_fits : (text : List ℕ)
        → (all_hex text && (fits_after (begin_group mask own) text).none)
        ≡ passes (fits_at sought place) (group_of text)
    group_fits [] = refl
    group_fits (a ∷ []) = judged (all_hex (a ∷ [])) _ _
        (λ is. one_digit (digit_value a) (digit_of a _ is).0)
    group_fits (a ∷ b ∷ []) = judged (all_hex (a ∷ b ∷ [])) _ _
        (λ is. let p = digit_of a _ is in two_digits (digit_value a) (digit_value b) p.0 (digit_of b _ p.1).0)
    group_fits (a ∷ b ∷ c ∷ []) = judged (all_hex (a ∷ b ∷ c ∷ [])) _ _
        (λ is. let p = digit_of a _ is in let q = digit_of b _ p.1 in
        three_digits (digit_value a) (digit_value b) (digit_value c) p.0 q.0 (digit_of c _ q.1).0)
    group_fits (a ∷ b ∷ c ∷ d ∷ []) = judged (all_hex (a ∷ b ∷ c ∷ d ∷ [])) _ _
        (λ is. let p = digit_of a _ is in let q = digit_of b _ p.1 in let r = digit_of c _ q.1 in
        four_digits (digit_value a) (digit_value b) (digit_value c) (digit_value d) p.0 q.0 r.0 (digit_of d _ r.1).0)
    group_fits (a ∷ b ∷ c ∷ d ∷ e ∷ text) =
        ap (λ v. all_hex (a ∷ b ∷ c ∷ d ∷ e ∷ text) && v)
        (full (fits_after (begin_group mask own) (a ∷ b ∷ c ∷ d ∷ [])).none e text)
        ∙ no_last (all_hex (a ∷ b ∷ c ∷ d ∷ e ∷ text))
        ∙ sym (long (length (a ∷ b ∷ c ∷ d ∷ e ∷ text)) (omega arith)
        (all_hex (a ∷ b ∷ c ∷ d ∷ e ∷ text))
        (digits_value 16 (a ∷ b ∷ c ∷ d ∷ e ∷ text)))

    group_read : (text : List ℕ)
        → reads_on (Group (begin_group mask own)) text ≡ passes (fits_at sought place) (group_of text)
    group_read text = group_from (begin_group mask own) text ∙ group_fits text

  own_below : (family : Family) → number_at family place sought.own < 65536
  own_below Four =
      let k : sought.own / 256 ^ place % 256 < 256 = mod-lt (sought.own / 256 ^ place) (lit< tt) in omega arith
  own_below Six = mod-lt (sought.own / 65536 ^ place) (lit< tt)

  read_in : (family : Family) (text : List ℕ)
      → reads_on (begin_in family (number_at sought.family place sought.mask)
      (number_at sought.family place sought.own)) text
      ≡ passes (fits_at sought place) (number_in family text)
  read_in Four text = byte_read text
  read_in Six text = group_read (own_below sought.family) text

  pub number_read : (text : List ℕ) → reads_on (begin_digits sought place) text ≡ number_fits sought place text
  number_read text = read_in sought.family text
