-- A number that is printed is read back.
use Rattle.hc_addr.proofs.Common.{◌≡◌, ℕ, zero, suc, ◌+◌, ◌/◌, ◌%◌, ◌^◌, ◌<◌, ◌≤◌}
use Rattle.hc_addr.proofs.Common.{Bool, true, false, cond, eqb, ltb, leb, List, [], ◌∷◌, length, Some, refl, ap}
use Rattle.hc_addr.proofs.Common.{arith, digit_value, is_digit, AllByRecursion, list_all, AllDigits, nat_tests}
use Rattle.hc_addr.proofs.Common.{div-lt_iff_lt-mul, pow-suc, pow-zero, number_of}
use Rattle.std.specs.Fmt.{digits, digits_onto, digit_glyph}
use Rattle.std.proofs.lemmas.Bool.{eqb-false, eqb-true}
use Rattle.std.proofs.lemmas.Fmt.{digits_is_IsNumeral}
use Rattle.hc_addr.proofs.Powers.{below_power}

pub div_below : (base k n : ℕ) → 0 < base → n < base ^ suc k → n / base < base ^ k
div_below base k n some h = (div-lt_iff_lt-mul some).1 (rw (pow-suc base k) at h)

onto_next : (q more glyph : ℕ) (acc rest : List ℕ) (v : Bool) → eqb q 0 ≡ v
    → (eqb q 0 ≡ false → length rest ≤ length acc + 1 + more)
    → length (cond v (glyph ∷ acc) rest) ≤ length acc + suc more
onto_next q more glyph acc rest true e ih = omega arith
onto_next q more glyph acc rest false e ih = let k = ih e in omega arith

-- A number below a power has no more digits than its exponent.
length_onto : (fuel base more n : ℕ) (acc : List ℕ) → 0 < base → n < base ^ suc more
    → length (digits_onto fuel base false n acc) ≤ length acc + suc more
length_onto zero base more n acc some h = omega arith
length_onto (suc fuel) base zero n acc some h =
    let q : n / base < 1 = rw (pow-zero base) at (div_below base 0 n some h) in
    onto_next (n / base) 0 (digit_glyph false (n % base)) acc _ (eqb (n / base) 0) refl
    (λ e. absurd (eqb-false _ _ e (omega arith)))
length_onto (suc fuel) base (suc more) n acc some h =
    onto_next (n / base) (suc more) (digit_glyph false (n % base)) acc _ (eqb (n / base) 0) refl
    (λ e. let k = length_onto fuel base more (n / base) (digit_glyph false (n % base) ∷ acc) some
    (div_below base (suc more) n some h) in omega arith)

length_digits : (base more n : ℕ) → 0 < base → n < base ^ suc more → length (digits base false n) ≤ suc more
unfolding digits
length_digits base more n some h = let k = length_onto 64 base more n [] some h in omega arith

all_digits : (base : ℕ) (ds : List ℕ) → AllDigits base ds → list_all (λ b. is_digit b base) ds ≡ true
all_digits base [] h = refl
all_digits base (d ∷ ds) h = let e : ltb (digit_value d) base ≡ true = grind (arith, nat_tests) in
    rw e (all_digits base ds h.1)

-- A number is read back from its digits.
pub digits_read : (base more n : ℕ) → 2 ≤ base → base ≤ 16 → more < 64 → n < base ^ suc more
    → number_of base (suc more) (digits base false n) ≡ Some n
digits_read base more n low high few h =
    let d = digits_is_IsNumeral base false low high n
    (below_power base n (suc more) 64 (omega arith) h (omega arith)) in
    let k = length_digits base more n (omega arith) h in
    let some : ltb 0 (length (digits base false n)) ≡ true = grind (arith, nat_tests, d.0.0) in
    let short : leb (length (digits base false n)) (suc more) ≡ true = grind (arith, nat_tests) in
    rw (some, short, all_digits base (digits base false n) d.0.1, d.1) refl

-- A digit is no byte that isn't one.
not_digit : (base b c : ℕ) → digit_value b < base → base ≤ digit_value c → (v : Bool) → eqb b c ≡ v
    → v ≡ false
not_digit base b c h k false e = refl
not_digit base b c h k true e = let s = ap digit_value (eqb-true b c e) in absurd (omega arith)

digits_lack : (base c : ℕ) → base ≤ digit_value c → (ds : List ℕ) → AllDigits base ds
    → AllByRecursion (λ b. eqb b c ≡ false) ds
digits_lack base c k [] h = tt
digits_lack base c k (d ∷ ds) h = (not_digit base d c h.0 k (eqb d c) refl, digits_lack base c k ds h.1)

pub printed_lacks : (base n c : ℕ) → 2 ≤ base → base ≤ 16 → n < base ^ 64 → base ≤ digit_value c
    → AllByRecursion (λ b. eqb b c ≡ false) (digits base false n)
printed_lacks base n c low high h k =
    digits_lack base c k (digits base false n) (digits_is_IsNumeral base false low high n h).0.1

pub printed_some : (base n : ℕ) → 2 ≤ base → base ≤ 16 → n < base ^ 64 → 0 < length (digits base false n)
printed_some base n low high h = (digits_is_IsNumeral base false low high n h).0.0
