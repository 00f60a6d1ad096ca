use Rattle.hc_pattern.proofs.Common.{◌≡◌, length, map, parts_of, parts_refusal}
use Rattle.hc_pattern.specs.ClassViews.{placed_view}
use Rattle.hc_pattern.proofs.class.class_refusal.Given as goal

abbrev pub invariant-members : goal.invariant-members
invariant-members l = parts_refusal (parts_of (map placed_view l.rest))
    ≡ parts_refusal (parts_of (map placed_view l.members))

abbrev pub decreases-members : goal.decreases-members
decreases-members l = length l.rest
