use Rattle.hc_match.proofs.Common.{ℕ, List, pattern_of}
use Rattle.hc_match.specs.Single.{NoWay}
use Rattle.hc_match.proofs.look.lead.Given as goal

abbrev pub invariant-fronts : goal.invariant-fronts
invariant-fronts l = (text : List ℕ) (at : ℕ) → NoWay text at (pattern_of l.lead)
    → NoWay text at (pattern_of l.pat)
