use Rattle.hc_match.proofs.Common.{◌≡◌, take, kept_in, kept_now}
use Rattle.hc_match.proofs.paths.groups_of.Given as goal

abbrev pub invariant-pairs : goal.invariant-pairs
invariant-pairs l = kept_in l.groups ≡ kept_now l.steps (take l.pair-index l.passed)
