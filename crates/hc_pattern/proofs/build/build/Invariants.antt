use Rattle.hc_pattern.proofs.Common.{◌≡◌, [], length, map, levels_known, new_known}
use Rattle.hc_pattern.specs.BuildViews.{levels_view}
use Rattle.hc_pattern.specs.TokenViews.{placed_view}
use Rattle.hc_pattern.proofs.build.build.Given as goal

abbrev pub invariant-tokens : goal.invariant-tokens
invariant-tokens l = levels_known (map placed_view l.rest) (levels_view l.levels)
    ≡ levels_known (map placed_view l.tokens) (new_known, [])

abbrev pub decreases-tokens : goal.decreases-tokens
decreases-tokens l = length l.rest
