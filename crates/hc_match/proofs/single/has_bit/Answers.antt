use Rattle.hc_match.proofs.Common.{◌≡◌, ℕ, zero, suc, ◌<◌, ◌*◌, ◌%◌, bit_and, nat_eq, ne_eqb, refl}
use Rattle.hc_match.proofs.Common.{ap, ◌∙◌, arith}
use Rattle.std.specs.Prelude.{◌^◌, ◌==◌, not}
use Rattle.std.specs.Int.{bit_at}
use Rattle.std.proofs.lemmas.Nat.{one_shl, pow_pos}
use Rattle.std.proofs.lemmas.Nat.Bits.{and_pow, bit_at-lt}
use Rattle.hc_match.proofs.single.has_bit.Goals as goal

bit_says : (bit power : ℕ) → bit < 2 → 0 < power → not (nat_eq (bit * power) 0) ≡ (bit == 1)
bit_says zero power below some = let none : 0 * power ≡ 0 = omega arith in rw none refl
bit_says (suc zero) zero below some = absurd (omega (arith, some))
bit_says (suc zero) (suc power) below some = let one : 1 * suc power ≡ suc power = omega arith in
    rw (one, ne_eqb (suc power) 0 (λ same. omega (arith, same))) refl
bit_says (suc (suc bit)) power below some = absurd (omega (arith, below))

pub returns : goal.returns
returns c =
    let bits = c.half.result in let place = c.args.place % 64 in let below : place < 64 = omega arith in
    ap (λ mask. not (nat_eq (bit_and bits mask) 0)) (c.from.ensures ∙ one_shl place 64 below)
    ∙ ap (λ masked. not (nat_eq masked 0)) (and_pow bits place)
    ∙ bit_says (bit_at bits place) (2 ^ place) (bit_at-lt bits place) (pow_pos place)
    ∙ ap (λ bit. bit == 1) c.half.ensures
