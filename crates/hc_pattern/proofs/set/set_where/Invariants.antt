use Rattle.hc_pattern.proofs.Common.{◌≡◌, ℕ, Bool, ◌&&◌, nat_lt, IsTest, has_byte}
use Rattle.hc_pattern.proofs.set.set_where.Given as goal

abbrev pub invariant-loop-number : goal.invariant-loop-number
invariant-loop-number g l =
    (wanted : ℕ → Bool) → IsTest (goal.F-post g l.test) wanted → (b : ℕ)
    → has_byte l.set b ≡ (nat_lt b l.number && wanted b)
