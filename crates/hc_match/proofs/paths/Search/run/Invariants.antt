use Rattle.hc_match.proofs.Common.{ℕ, Meaning, Means, IsSearch, Stands}
use Rattle.hc_match.proofs.paths.Search.run.Given as goal

abbrev pub invariant-turns : goal.invariant-turns
invariant-turns l = (meaning : Meaning) (start from : ℕ) → Means l.text l.steps meaning
    → IsSearch l.steps meaning start from l.fn.self → Stands l.steps meaning start from l.status l.self
