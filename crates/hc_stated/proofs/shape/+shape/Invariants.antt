use Rattle.std.proofs.Common.{◌≡◌, ◌+◌, ◌*◌, [], drop, map}
use Rattle.serde_json.specs.View.{items_view}
use Rattle.hc_regset.specs.Forms.{form_of}
use Rattle.hc_stated.specs.Shapes.{set_within, sets_behind}
use Rattle.hc_stated.proofs.shape.+shape.Given as goal

abbrev pub decreases-set_within : goal.decreases-set_within
decreases-set_within l = 4 * l.room

abbrev pub decreases-set_keyed : goal.decreases-set_keyed
decreases-set_keyed l = 4 * l.room + 3

abbrev pub decreases-members_in : goal.decreases-members_in
decreases-members_in l = 4 * l.room + 2

abbrev pub decreases-sets_of : goal.decreases-sets_of
decreases-sets_of l = 4 * l.room + 1

-- the sets that were made, with those of the values that are left, are all
abbrev pub invariant-sets_of-loop-value : goal.invariant-sets_of-loop-value
invariant-sets_of-loop-value l =
    sets_behind (set_within l.room) (map form_of l.sets.items) (items_view (drop l.value-index l.values))
    ≡ sets_behind (set_within l.room) [] (items_view l.values)
