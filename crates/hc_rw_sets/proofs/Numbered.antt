-- Reading what stands behind a server's name.
use Rattle.std.proofs.Common.{◌≡◌, ℕ, zero, suc, ◌+◌, ◌*◌, ◌/◌, ◌<◌, ◌≤◌, inl, inr, List, [], ◌∷◌, length, Bool}
use Rattle.std.proofs.Common.{true, false, refl, sym, ◌∙◌, ap, subst, arith, ◌==◌, ◌&&◌, nat_le, Some, None}
use Rattle.std.proofs.Common.{if◌then◌else◌, eqb-true, eq-eqb, lt-ltb, ltb-true}
use Rattle.std.proofs.lemmas.Bool.{both_ways, false_from_ne_true, leb-false, ne_eqb, or_cases, or_left, or_parts, or_right}
use Rattle.std.specs.Char.{digit_value, is_digit}
use Rattle.std.specs.Cmp.{nat_eq_equiv}
use Rattle.std.specs.List.{list_all, list_any}
use Rattle.std.specs.Str.Parse.{digits_value_after}
use Rattle.hc_addr.specs.Numbers.{at_most, decimal_of}
use Rattle.hc_addr.specs.declared.sizes.TheConstants.{HIGHEST_PORT}
use Rattle.hc_base.specs.Bytes.{colon}
use Rattle.hc_dfa.specs.Readings.{reading_from}
use Rattle.hc_dfa.specs.Texts.{TextSet, IsText}
use Rattle.hc_model.specs.declared.request.Scheme.{Scheme}
use Rattle.hc_rw_eval.specs.Locations.{is_number, is_port}
use Rattle.hc_rw_sets.specs.Ports.{fronts_of, leads_on, number_mark, behind_digit, next_mark, port_ends}
use Rattle.hc_rw_sets.specs.declared.ports.Mark.{Mark}
use Rattle.hc_rw_sets.specs.declared.ports.Mark.TheVariants.{Begin, Colon, Number, Other}
use Rattle.hc_rw_sets.proofs.Readings.{read_as}

-- ---- the fronts of a number

abbrev IsFront : ℕ → ℕ → ℕ → Type 0
IsFront more number value = list_any (λ front. front == value) (fronts_of more number) ≡ true

first_front : (more number : ℕ) → IsFront more number number
first_front zero number = rw (nat_eq_equiv.refl number) refl
first_front (suc more) number = rw (nat_eq_equiv.refl number) refl

front_within : (more number value : ℕ) → IsFront more number value → value ≤ number
front_within zero number value is = elim (or_cases (number == value) false is) [
  | inl same ↦ omega (arith, eqb-true number value same)
  | inr none ↦ absurd (cc)
]
front_within (suc more) number value is =
    elim (or_cases (number == value) (list_any (λ front. front == value) (fronts_of more (number / 10))) is) [
      | inl same ↦ omega (arith, eqb-true number value same)
      | inr later ↦ omega (arith, front_within more (number / 10) value later)
    ]

pub led_within : (port value : ℕ) → leads_on port value ≡ true → value ≤ port
led_within port value is = front_within 5 port value is

-- Behind so many digits nothing is left.
abbrev left_of : ℕ → ℕ → ℕ
left_of zero number = number
left_of (suc more) number = left_of more (number / 10)

-- What more digits make a front is one.
front_before : (more number value digit : ℕ) → digit < 10 → left_of more number ≡ 0
    → IsFront more number (value * 10 + digit) → IsFront more number value
front_before zero number value digit below none is = elim (or_cases (number == (value * 10 + digit)) false is) [
  | inl same ↦
      or_left (number == value) false (eq-eqb number value (omega (arith, eqb-true number (value * 10 + digit) same)))
  | inr other ↦ absurd (cc)
]
front_before (suc more) number value digit below none is =
    elim (or_cases (number == (value * 10 + digit))
    (list_any (λ front. front == (value * 10 + digit)) (fronts_of more (number / 10))) is) [
      | inl same ↦
          let front : number / 10 ≡ value = omega (arith, eqb-true number (value * 10 + digit) same) in
          or_right (number == value) (list_any (λ front. front == value) (fronts_of more (number / 10)))
          (subst (λ n. IsFront more n value) (sym front) (first_front more value))
      | inr later ↦
          or_right (number == value) (list_any (λ front. front == value) (fronts_of more (number / 10)))
          (front_before more (number / 10) value digit below none later)
    ]

module _ (scheme : Scheme) (port : ℕ) (highest : port ≤ HIGHEST_PORT) (few : left_of 5 port ≡ 0) where
  -- The digits go on behind those of the value, and make the port.
  abbrev goes_on : ℕ → TextSet
  goes_on value digits =
      list_all (λ b. is_digit b 10) digits && (digits_value_after 10 value digits == port)

  led_before : (value digit : ℕ) → digit < 10 → leads_on port (value * 10 + digit) ≡ true
      → leads_on port value ≡ true
  led_before value digit below is = front_before 5 port value digit below few is

  never : (value : ℕ) (digits : List ℕ) → leads_on port value ≡ false → goes_on value digits ≡ false
  never value [] none = rw (nat_eq_equiv.symm value port) (or_parts _ _ none).0
  never value (b ∷ digits) none = by (is_digit b 10) refl (never (value * 10 + digit_value b) digits)
    where
      by : (v : Bool) → is_digit b 10 ≡ v
          → (leads_on port (value * 10 + digit_value b) ≡ false → goes_on (value * 10 + digit_value b) digits ≡ false)
          → ((v && list_all (λ b. is_digit b 10) digits)
          && (digits_value_after 10 (value * 10 + digit_value b) digits == port)) ≡ false
      by false is each = refl
      by true is each =
          let below : digit_value b < 10 = ltb-true _ _ is in
          each (false_from_ne_true _ (λ led. both_ways _ none (led_before value (digit_value b) below led)))

  abbrev meant : Mark → TextSet
  meant Begin text = is_port scheme port text
  meant Colon text = is_number port (at_most HIGHEST_PORT (decimal_of text))
  meant (Number value) text = goes_on value text
  meant Other text = false

  mark_ends : (mark : Mark) → port_ends scheme port mark ≡ meant mark []
  mark_ends Begin = refl
  mark_ends Colon = refl
  mark_ends (Number value) = refl
  mark_ends Other = refl

  number_meant : (value : ℕ) (text : List ℕ) → meant (number_mark port value) text ≡ goes_on value text
  number_meant value text = by (leads_on port value) refl
    where
      by : (v : Bool) → leads_on port value ≡ v → meant (if v then Number value else Other) text ≡ goes_on value text
      by true is = refl
      by false none = sym (never value text none)

  digit_meant : (value byte : ℕ) (text : List ℕ)
      → meant (behind_digit port value byte) text ≡ goes_on value (byte ∷ text)
  digit_meant value byte text = by (is_digit byte 10)
    where
      by : (v : Bool)
          → meant (if v then number_mark port (value * 10 + digit_value byte) else Other) text
          ≡ ((v && list_all (λ b. is_digit b 10) text)
          && (digits_value_after 10 (value * 10 + digit_value byte) text == port))
      by true = number_meant (value * 10 + digit_value byte) text
      by false = refl

  -- A number in digits, of which there is one.
  decimal_is : (byte : ℕ) (text : List ℕ)
      → decimal_of (byte ∷ text)
      ≡ (if list_all (λ b. is_digit b 10) (byte ∷ text) then Some (digits_value_after 10 0 (byte ∷ text)) else None)
  decimal_is byte text =
      ap (λ v. if v && list_all (λ b. is_digit b 10) (byte ∷ text) then Some (digits_value_after 10 0 (byte ∷ text)) else None)
      (lt-ltb 0 (length (byte ∷ text)) (omega arith))

  first_digit : (byte : ℕ) (text : List ℕ)
      → goes_on 0 (byte ∷ text) ≡ is_number port (at_most HIGHEST_PORT (decimal_of (byte ∷ text)))
  first_digit byte text =
      by (list_all (λ b. is_digit b 10) (byte ∷ text)) (digits_value_after 10 0 (byte ∷ text))
      ∙ sym (ap (λ found. is_number port (at_most HIGHEST_PORT found)) (decimal_is byte text))
    where
      bounded : (number : ℕ) (v : Bool) → nat_le number HIGHEST_PORT ≡ v
          → (number == port) ≡ is_number port (if v then Some number else None)
      bounded number true is = refl
      bounded number false is = ne_eqb number port (λ same. omega (arith, leb-false number HIGHEST_PORT is))

      by : (v : Bool) (number : ℕ)
          → (v && (number == port)) ≡ is_number port (at_most HIGHEST_PORT (if v then Some number else None))
      by true number = bounded number (nat_le number HIGHEST_PORT) refl
      by false number = refl

  mark_goes_on : (mark : Mark) (byte : ℕ) (text : List ℕ) → byte < 256
      → meant (next_mark port mark byte) text ≡ meant mark (byte ∷ text)
  mark_goes_on Begin byte text below = by (byte == colon)
    where
      by : (v : Bool) → meant (if v then Colon else Other) text ≡ (v && meant Colon text)
      by true = refl
      by false = refl
  mark_goes_on Colon byte text below = digit_meant 0 byte text ∙ first_digit byte text
  mark_goes_on (Number value) byte text below = digit_meant value byte text
  mark_goes_on Other byte text below = refl

  pub port_read : (text : List ℕ) → IsText text
      → reading_from (next_mark port) (port_ends scheme port) Begin text ≡ is_port scheme port text
  port_read text bytes =
      read_as (next_mark port) (port_ends scheme port) meant mark_ends mark_goes_on Begin text bytes
