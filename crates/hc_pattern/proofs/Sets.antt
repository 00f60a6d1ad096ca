-- The bits of a set.
use Rattle.hc_pattern.proofs.Common.{◌≡◌, ℕ, zero, suc, ◌-◌, ◌*◌, ◌%◌, ◌^◌, ◌<◌, ◌≢◌}
use Rattle.hc_pattern.proofs.Common.{◌==◌, Bool, true, false, not, ◌||◌, ◌&&◌, ◌+◌, nat_le}
use Rattle.hc_pattern.proofs.Common.{if◌then◌else◌, inl, inr, min, max, nat_lt, refl, sym, ap, ◌∙◌, arith}
use Rattle.hc_pattern.proofs.Common.{eq-eqb, eqb-true, true≢false, le-ltb, lt-ltb, or-false, or-true, nat_tests}
use Rattle.hc_pattern.proofs.Common.{bits_where, has_bit, has_byte, set_where}
use Rattle.std.proofs.lemmas.Bool.{cases_lt}
use Rattle.std.proofs.lemmas.Nat.Bits.{bit_at_mask_above, bit_at_mask_below, bit_at_mask_inside, bit_at_or, bit_at-lt}
use Rattle.std.proofs.lemmas.Nat.Bits.{bit_at_not, bit_at_set_same, bit_at_set_other, bit_at_above, bit_at_cat_high}
use Rattle.std.proofs.lemmas.Nat.Bits.{bit_at_cat_low, same_from_bits_below}
use Rattle.std.proofs.Math.Nat.{one-le-pow, pow-suc}
use Rattle.std.specs.Int.{w128}
use Rattle.std.specs.Int.RustNames.{bit_or}
use Rattle.hc_pattern.specs.declared.set.ByteSet.{ByteSet}

max_is : (x y : ℕ) → x < 2 → y < 2 → (max x y == 1) ≡ ((x == 1) || (y == 1))
max_is zero zero low high = refl
max_is zero (suc zero) low high = refl
max_is (suc zero) zero low high = refl
max_is (suc zero) (suc zero) low high = refl
max_is (suc (suc x)) y low high = absurd (omega arith)
max_is zero (suc (suc y)) low high = absurd (omega arith)
max_is (suc zero) (suc (suc y)) low high = absurd (omega arith)

pub has_bit_or : (a b place : ℕ) → has_bit (bit_or a b) place ≡ (has_bit a place || has_bit b place)
has_bit_or a b place = rw bit_at_or (max_is _ _ (bit_at-lt a place) (bit_at-lt b place))

less_is : (x : ℕ) → x < 2 → (1 - x == 1) ≡ not (x == 1)
less_is zero low = refl
less_is (suc zero) low = refl
less_is (suc (suc x)) low = absurd (omega arith)

pub has_bit_not : (a place : ℕ) → a < 2 ^ 128 → place < 128 → has_bit (2 ^ 128 - 1 - a) place
    ≡ not (has_bit a place)
has_bit_not a place fits within = ap (λ x. x == 1) (bit_at_not w128 a place fits within)
    ∙ less_is _ (bit_at-lt a place)

set_step : (bits place other : ℕ) → place < 128 → (v : Bool) → (other == place) ≡ v
    → has_bit (bit_or bits (1 * 2 ^ place % 2 ^ 128)) other ≡ (has_bit bits other || v)
set_step bits place other within true is = let same : other ≡ place = eqb-true other place is in
    rw (same, bit_at_set_same w128 bits place within) (sym (or-true (has_bit bits place)))
set_step bits place other within false is =
    let apart : other ≢ place = λ same. true≢false (sym (eq-eqb other place same) ∙ is) in
    rw (bit_at_set_other w128 bits place within other apart) (sym (or-false (has_bit bits other)))

pub has_bit_set : (bits place other : ℕ) → place < 128 → has_bit (bit_or bits (1 * 2 ^ place % 2 ^ 128)) other
    ≡ (has_bit bits other || (other == place))
has_bit_set bits place other within = set_step bits place other within _ refl

union_step : (low : Bool) (a b c d i j : ℕ) → (if low then has_bit (bit_or a b) i else has_bit (bit_or c d) j)
    ≡ ((if low then has_bit a i else has_bit c j) || (if low then has_bit b i else has_bit d j))
union_step true a b c d i j = has_bit_or a b i
union_step false a b c d i j = has_bit_or c d j

pub has_byte_union : (s t : ByteSet) (byte : ℕ)
    → has_byte (record { low = bit_or s.low t.low; high = bit_or s.high t.high }) byte
    ≡ (has_byte s byte || has_byte t byte)
has_byte_union s t byte = union_step (nat_lt byte 128) s.low t.low s.high t.high byte (byte - 128)

-- ---- the bits from one place on and below another

between : (from below place : ℕ) → has_bit (2 ^ below - 2 ^ from) place
    ≡ (nat_le from place && nat_lt place below)
between from below place = elim (cases_lt place from) [
  | inl before ↦ rw (bit_at_mask_below from below place before) (grind (arith, nat_tests))
  | inr after ↦ elim (cases_lt place below) [
    | inl within ↦ rw (bit_at_mask_inside from below place after within) (grind (arith, nat_tests))
    | inr past ↦ rw (bit_at_mask_above from below place past) (grind (arith, nat_tests))
  ]
]

pub has_bits_between : (bits from below place : ℕ) → has_bit (bit_or bits (2 ^ below - 1 - (2 ^ from - 1))) place
    ≡ (has_bit bits place || (nat_le from place && nat_lt place below))
has_bits_between bits from below place =
    let e : 2 ^ below - 1 - (2 ^ from - 1) ≡ 2 ^ below - 2 ^ from = omega (arith, one-le-pow from 2 (omega arith)) in
    has_bit_or bits _ place ∙ ap (λ v. has_bit bits place || v) (rw e (between from below place))

pub has_range : (low high x y : Bool) (from to byte a b k m : ℕ) (v : Bool) → nat_lt byte 128 ≡ v
    → a ≡ min from 128 → b ≡ min to 127 → k ≡ from - 128 → m ≡ to - 127
    → low ≡ (x || (nat_le a byte && nat_lt byte (b + 1)))
    → high ≡ (y || (nat_le k (byte - 128) && nat_lt (byte - 128) m))
    → (if v then low else high) ≡ ((if v then x else y) || (nat_le from byte && nat_le byte to))
has_range low high x y from to byte a b k m true is begins ends more past here other =
    here ∙ ap (λ v. x || v) (grind (arith, nat_tests))
has_range low high x y from to byte a b k m false is begins ends more past other here =
    here ∙ ap (λ v. y || v) (grind (arith, nat_tests))

-- ---- a set by its test

bit_same : (x y : ℕ) → x < 2 → y < 2 → (x == 1) ≡ (y == 1) → x ≡ y
bit_same zero zero low high is = refl
bit_same zero (suc zero) low high is = absurd (true≢false (sym is))
bit_same (suc zero) zero low high is = absurd (true≢false is)
bit_same (suc zero) (suc zero) low high is = refl
bit_same (suc (suc x)) y low high is = absurd (omega arith)
bit_same zero (suc (suc y)) low high is = absurd (omega arith)
bit_same (suc zero) (suc (suc y)) low high is = absurd (omega arith)

doubled : (place : ℕ) → 2 ^ suc place ≡ 2 ^ place + 2 ^ place
doubled place = rw pow-suc (omega arith)

fits_step : (place bits : ℕ) (v : Bool) → bits < 2 ^ place → (if v then 2 ^ place + bits else bits)
    < 2 ^ suc place
fits_step place bits true fits = rw doubled (omega arith)
fits_step place bits false fits = rw doubled (omega arith)

bits_fit : (test : ℕ → Bool) (place : ℕ) → bits_where test place < 2 ^ place
unfolding bits_where
bits_fit test zero = omega arith
bits_fit test (suc place) = fits_step place (bits_where test place) (test place) (bits_fit test place)

at_step : (place bits i : ℕ) (v : Bool) → bits < 2 ^ place → i < suc place → (i ≡ place → ⊥)
    → has_bit (if v then 2 ^ place + bits else bits) i ≡ has_bit bits i
at_step place bits i true fits within apart =
    let e : 2 ^ place + bits ≡ 1 * 2 ^ place + bits = omega arith in
    rw e (ap (λ x. x == 1) (bit_at_cat_low 1 place bits i (omega arith)))
at_step place bits i false fits within apart = refl

at_place : (place bits : ℕ) (v : Bool) → bits < 2 ^ place → has_bit (if v then 2 ^ place + bits else bits) place
    ≡ v
at_place place bits true fits =
    let e : 2 ^ place + bits ≡ 1 * 2 ^ place + bits = omega arith in
    let none : place - place ≡ 0 = omega arith in
    rw e (ap (λ x. x == 1) (bit_at_cat_high 1 place bits place fits (omega arith)) ∙ rw none refl)
at_place place bits false fits = ap (λ x. x == 1) (bit_at_above bits place place fits (omega arith))

bits_step : (test : ℕ → Bool) (place i : ℕ) (v : Bool) → (i == place) ≡ v → i < suc place
    → (i < place → has_bit (bits_where test place) i ≡ test i)
    → has_bit (bits_where test (suc place)) i ≡ test i
unfolding bits_where
bits_step test place i true is within later =
    let same : i ≡ place = eqb-true i place is in
    rw same (at_place place (bits_where test place) (test place) (bits_fit test place))
bits_step test place i false is within later =
    let apart : i ≢ place = λ same. true≢false (sym (eq-eqb i place same) ∙ is) in
    at_step place (bits_where test place) i (test place) (bits_fit test place) within apart ∙ later (omega arith)

bits_is : (test : ℕ → Bool) (place i : ℕ) → i < place → has_bit (bits_where test place) i ≡ test i
bits_is test zero i within = absurd (omega arith)
bits_is test (suc place) i within = bits_step test place i _ refl within (λ below. bits_is test place i below)

bits_same : (test : ℕ → Bool) (bits : ℕ) → bits < 2 ^ 128
    → ((i : ℕ) → i < 128 → has_bit bits i ≡ test i) → bits ≡ bits_where test 128
bits_same test bits fits is =
    same_from_bits_below 128 bits (bits_where test 128) fits (bits_fit test 128)
    (λ i within. bit_same _ _ (bit_at-lt bits i) (bit_at-lt (bits_where test 128) i)
    (is i within ∙ sym (bits_is test 128 i within)))

low_byte : (set : ByteSet) (i : ℕ) → i < 128 → has_byte set i ≡ has_bit set.low i
low_byte set i within = rw (lt-ltb i 128 within) refl

high_byte : (set : ByteSet) (i : ℕ) → has_byte set (i + 128) ≡ has_bit set.high i
high_byte set i = let e : i + 128 - 128 ≡ i = omega arith in rw (le-ltb (i + 128) 128 (omega arith), e) refl

-- A set is that of the bytes that meet a test.
pub set_is : (set : ByteSet) (test : ℕ → Bool) → set.low < 2 ^ 128 → set.high < 2 ^ 128
    → ((b : ℕ) → b < 256 → has_byte set b ≡ test b) → set ≡ set_where test
set_is set test low high is =
    let a = bits_same test set.low low (λ i within. sym (low_byte set i within) ∙ is i (omega arith)) in
    let b = bits_same (λ place. test (place + 128)) set.high high
    (λ i within. sym (high_byte set i) ∙ is (i + 128) (omega arith)) in
    λ i. record { low = a i; high = b i }
