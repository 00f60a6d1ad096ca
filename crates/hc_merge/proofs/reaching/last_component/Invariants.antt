use Rattle.std.proofs.Common.{◌≡◌, drop}
use Rattle.hc_merge.specs.Reaching.{behind_slashes, last_component}
use Rattle.hc_merge.proofs.reaching.last_component.Given as goal

abbrev pub invariant-loop-at : goal.invariant-loop-at
invariant-loop-at l = last_component l.name ≡ behind_slashes l.last (drop l.at l.name)
