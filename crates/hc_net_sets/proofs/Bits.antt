-- Numbers that are the same under a mask, part by part.
use Rattle.hc_net_sets.proofs.Common.{◌≡◌, ℕ, zero, suc, ◌+◌, ◌-◌, ◌*◌, ◌/◌, ◌%◌, ◌^◌}
use Rattle.hc_net_sets.proofs.Common.{◌<◌, ◌≤◌, ◌==◌, ◌&&◌, Bool, true}
use Rattle.hc_net_sets.proofs.Common.{false, refl, sym, ◌∙◌, ap, ap₂, subst, arith}
use Rattle.std.proofs.Math.Arith.{digits_div, digits_mod}
use Rattle.std.proofs.Math.Nat.{div-div-eq-div-mul, pow-suc}
use Rattle.std.proofs.lemmas.Bool.{eq-eqb, eqb-false, eqb-true, ne_eqb}
use Rattle.std.proofs.lemmas.Nat.{and_mod, and_shr, div-add-mod', pow-add, pow_pos}
use Rattle.std.specs.Prelude.{bit_and}
use Rattle.hc_addr.specs.Networks.{same_under}
use Rattle.hc_net_sets.specs.Sought.{base_of}
use Rattle.hc_net_sets.specs.declared.sought.Family.{Family}
use Rattle.hc_net_sets.specs.declared.sought.Family.TheVariants.{Four, Six}

eq_parts : (x y d : ℕ) → (x == y) ≡ ((x / d == y / d) && (x % d == y % d))
eq_parts x y d = by (x / d == y / d) refl (x % d == y % d) refl
  where
    by : (v : Bool) → (x / d == y / d) ≡ v → (w : Bool) → (x % d == y % d) ≡ w → (x == y) ≡ (v && w)
    by true q true r =
        eq-eqb x y (sym (div-add-mod' x d) ∙ ap₂ (λ a b. a * d + b) (eqb-true (x / d) (y / d) q)
        (eqb-true (x % d) (y % d) r) ∙ div-add-mod' y d)
    by true q false r = ne_eqb x y (λ same. eqb-false (x % d) (y % d) r (ap (λ n. n % d) same))
    by false q w r = ne_eqb x y (λ same. eqb-false (x / d) (y / d) q (ap (λ n. n / d) same))

-- The same in the high bits and in the low ones.
pub same_split : (k m v n o : ℕ) → n < 2 ^ k
    → same_under m (v * 2 ^ k + n) o
    ≡ (same_under (m / 2 ^ k) v (o / 2 ^ k) && same_under (m % 2 ^ k) n (o % 2 ^ k))
same_split k m v n o below =
    eq_parts (bit_and (v * 2 ^ k + n) m) (bit_and o m) (2 ^ k)
    ∙ ap₂ (λ a b. a && b)
    (ap₂ (λ a b. a == b) (and_shr (v * 2 ^ k + n) m k ∙ ap (λ x. bit_and x (m / 2 ^ k)) (digits_div v below))
    (and_shr o m k))
    (ap₂ (λ a b. a == b) (and_mod (v * 2 ^ k + n) m k ∙ ap (λ x. bit_and x (m % 2 ^ k)) (digits_mod v below))
    (and_mod o m k))

pub same_self : (m a : ℕ) → same_under m a a ≡ true
same_self m a = eq-eqb (bit_and a m) (bit_and a m) refl

pub up : (base whole left : ℕ) → whole / base ^ left / base ≡ whole / base ^ suc left
up base whole left = div-div-eq-div-mul whole (base ^ left) base ∙ ap (λ d. whole / d) (sym (pow-suc base left))

-- One number more of an address, with so many left behind it.
pub same_more : (family : Family) (mask own left v n : ℕ) → n < base_of family
    → same_under (mask / base_of family ^ left) (v * base_of family + n) (own / base_of family ^ left)
    ≡ (same_under (mask / base_of family ^ suc left) v (own / base_of family ^ suc left)
    && same_under (mask / base_of family ^ left % base_of family) n (own / base_of family ^ left % base_of family))
same_more Four mask own left v n below =
    same_split 8 (mask / 256 ^ left) v n (own / 256 ^ left) below
    ∙ ap₂ (λ a b. same_under a v b && same_under (mask / 256 ^ left % 256) n (own / 256 ^ left % 256))
    (up 256 mask left)
    (up 256 own left)
same_more Six mask own left v n below =
    same_split 16 (mask / 65536 ^ left) v n (own / 65536 ^ left) below
    ∙ ap₂ (λ a b. same_under a v b && same_under (mask / 65536 ^ left % 65536) n (own / 65536 ^ left % 65536))
    (up 65536 mask left) (up 65536 own left)

group_power : (count : ℕ) → 65536 ^ count ≡ 2 ^ (16 * count)
group_power zero = refl
group_power (suc count) =
    pow-suc 65536 count ∙ ap (λ p. p * 65536) (group_power count) ∙ sym (pow-add 2 (16 * count) 16)
    ∙ ap (λ k. 2 ^ k) (let e : 16 * count + 16 ≡ 16 * suc count = omega arith in e)

pub many_up : (whole behind left : ℕ) → behind ≤ left
    → whole / 65536 ^ behind / 65536 ^ (left - behind) ≡ whole / 65536 ^ left
many_up whole behind left within =
    div-div-eq-div-mul whole (65536 ^ behind) (65536 ^ (left - behind))
    ∙ ap (λ d. whole / d) (sym (pow-add 65536 behind (left - behind)) ∙ ap (λ k. 65536 ^ k)
    (let e : behind + (left - behind) ≡ left = omega arith in e))

-- Groups of zeros behind a front with so many numbers left.
pub same_zeros : (mask own behind left v : ℕ) → behind ≤ left
    → same_under (mask / 65536 ^ behind) (v * 65536 ^ (left - behind)) (own / 65536 ^ behind)
    ≡ (same_under (mask / 65536 ^ left) v (own / 65536 ^ left)
    && same_under (mask / 65536 ^ behind % 65536 ^ (left - behind)) 0 (own / 65536 ^ behind % 65536 ^ (left - behind)))
same_zeros mask own behind left v within =
    let m = mask / 65536 ^ behind in
    let o = own / 65536 ^ behind in
    let count = left - behind in
    ap (λ n. same_under m n o) (let e : v * 65536 ^ count ≡ v * 65536 ^ count + 0 = omega arith in e)
    ∙ subst (λ d. same_under m (v * d + 0) o ≡ (same_under (m / d) v (o / d) && same_under (m % d) 0 (o % d)))
    (sym (group_power count)) (same_split (16 * count) m v 0 o (pow_pos (16 * count)))
    ∙ ap₂ (λ a b. same_under a v b && same_under (m % 65536 ^ count) 0 (o % 65536 ^ count))
    (many_up mask behind left within) (many_up own behind left within)
