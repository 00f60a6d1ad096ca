use Rattle.hc_pattern.proofs.Common.{◌≡◌, ◌+◌, ◌≤◌, drop, map, groups_of}
use Rattle.hc_pattern.specs.TokenViews.{placed_view}
use Rattle.hc_pattern.proofs.reading.groups_of.Given as goal

abbrev pub invariant-loop-placed : goal.invariant-loop-placed
invariant-loop-placed l = record {
  sum : l.groups + groups_of (map placed_view (drop l.placed-index l.tokens)) ≡ groups_of (map placed_view l.tokens);
  few : l.groups ≤ l.placed-index;
}
