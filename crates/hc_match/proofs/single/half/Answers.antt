use Rattle.hc_match.proofs.Common.{◌≡◌, ◌+◌, ◌%◌, ◌∙◌, ap, arith}
use Rattle.std.specs.Int.{bit_at}
use Rattle.std.proofs.lemmas.Nat.{shr-shr}
use Rattle.hc_match.proofs.single.half.Goals as goal

pub returns-else-place-lt64 : goal.returns-else-place-lt64
returns-else-place-lt64 c =
    let place : 64 + c.args.place % 64 ≡ c.args.place = omega (arith, c.requires, c.if-place-lt64.false) in
    ap (λ bits. bits % 2) (shr-shr c.args.bits 64 (c.args.place % 64)) ∙ ap (bit_at c.args.bits) place
