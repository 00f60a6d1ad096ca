-- Counts that stop growing at a number.
use Rattle.std.proofs.Common.{◌≡◌, ℕ, zero, suc, ◌*◌, arith, inl, inr}
use Rattle.std.specs.Prelude.{min}
use Rattle.std.proofs.lemmas.Bool.{cases_lt}

pub capped_product : (most turns bytes : ℕ) → min (turns * min most bytes) most ≡ min most (turns * bytes)
capped_product most zero bytes = grind arith
capped_product most (suc turns) bytes = elim (cases_lt most bytes) [
  | inl less ↦ let e : min most bytes ≡ most = omega arith in rw e (grind arith)
  | inr within ↦ let e : min most bytes ≡ bytes = omega arith in rw e (omega arith)
]
