use Rattle.std.proofs.Common.{◌≡◌, ◌-◌, ◌∙◌, ap, ◌^◌, arith}
use Rattle.std.proofs.lemmas.Nat.Bits.{ones_shr}
use Rattle.hc_addr.proofs.net.low_mask.Goals as goal

pub returns-else-ones-eq0 : goal.returns-else-ones-eq0
returns-else-ones-eq0 c =
    let e : 128 - (128 - c.args.ones) ≡ c.args.ones = omega arith in
    ones_shr 128 (128 - c.args.ones) (omega arith) ∙ ap (λ k. 2 ^ k - 1) e
