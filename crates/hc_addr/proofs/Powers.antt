-- Bounds by powers of a base.
use Rattle.hc_addr.proofs.Common.{◌≡◌, ◌-◌, ℕ, ◌+◌, ◌*◌, ◌^◌, ◌<◌, ◌≤◌, arith, lit<}
use Rattle.hc_addr.proofs.Common.{lit≤, pow-le-pow_right, mul-le-mul, base_of, most_of}
use Rattle.std.proofs.lemmas.Grind.{pow_more}
use Rattle.std.proofs.lemmas.Nat.{pow-add}
use Rattle.hc_addr.specs.declared.numbers.Form.{Form}
use Rattle.hc_addr.specs.declared.numbers.Form.TheVariants.{Dotted, Coloned}

-- A number of few digits is below the power of more of them.
pub below_power : (base v i most : ℕ) → 0 < base → v < base ^ i → i ≤ most → v < base ^ most
below_power base v i most some h le = let k = pow-le-pow_right some le in omega arith

pub below_product : (v w x y : ℕ) → v ≤ x → w ≤ y → v * w ≤ x * y
below_product v w x y h k = mul-le-mul h k

-- One digit more.
pub below_push : (base v n count : ℕ) → v < base ^ count → n < base → v * base + n < base ^ (count + 1)
below_push base v n count h k = let p = below_product (v + 1) base (base ^ count) base (omega arith) (omega arith) in
    omega (arith, pow_more base count)

some_base : (form : Form) → 0 < base_of form
some_base Dotted = lit< tt
some_base Coloned = lit< tt

most_fits : (form : Form) → base_of form ^ most_of form ≤ 2 ^ 128
most_fits Dotted = lit≤ tt
most_fits Coloned = lit≤ tt

-- A row with room for a number more fits a `u128` with it.
pub room_fits : (form : Form) (v n count : ℕ) → v < base_of form ^ count → n < base_of form
    → count < most_of form → v * base_of form + n < 2 ^ 128
room_fits form v n count h k room =
    let p = below_power (base_of form) _ (count + 1) (most_of form) (some_base form)
    (below_push (base_of form) v n count h k) (omega arith) in
    omega (arith, most_fits form)

-- Digits at the front of a number of `most` digits, and others at its end.
pub joined_below : (base most v w before after : ℕ) → 0 < base → v < base ^ before → w < base ^ after
    → before + after ≤ most → v * base ^ (most - before) + w < base ^ most
joined_below base most v w before after some h k room =
    let e : before + (most - before) ≡ most = omega arith in
    let p = below_power base w after (most - before) some k (omega arith) in
    let q = below_product (v + 1) (base ^ (most - before)) (base ^ before) (base ^ (most - before)) (omega arith)
    (omega arith) in
    let s = rw e at (pow-add base before (most - before)) in
    omega arith
