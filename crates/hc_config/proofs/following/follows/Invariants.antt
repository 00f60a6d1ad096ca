use Rattle.std.proofs.Common.{◌≡◌, ◌+◌, drop}
use Rattle.hc_config.specs.Rewrites.{rule_follows}
use Rattle.hc_config.proofs.following.follows.Given as goal

abbrev pub invariant-loop-at : goal.invariant-loop-at
invariant-loop-at l = rule_follows (drop l.at l.entries) ≡ rule_follows (drop (l.place + 1) l.entries)
