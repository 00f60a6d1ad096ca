use Rattle.hc_pattern.proofs.Common.{◌≡◌, [], drop, map, reverse}
use Rattle.hc_pattern.specs.Reading.{first_refusal, nothing}
use Rattle.hc_pattern.specs.ReadingViews.{before_view}
use Rattle.hc_pattern.specs.TokenViews.{placed_view}
use Rattle.hc_pattern.proofs.reading.first_refusal.Given as goal

abbrev pub invariant-loop-placed : goal.invariant-loop-placed
invariant-loop-placed l =
    first_refusal (reverse l.opened.items) (before_view l.before) (map placed_view (drop l.placed-index l.tokens))
    ≡ first_refusal [] nothing (map placed_view l.tokens)
