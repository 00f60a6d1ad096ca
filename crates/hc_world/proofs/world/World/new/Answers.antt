use Rattle.hc_world.proofs.Common.{subst, sym, IsWorld}
use Rattle.hc_world.proofs.Counted.{new_is, new_no_later}
use Rattle.hc_world.proofs.Worlds.{IsWorld-new_world}
use Rattle.hc_world.proofs.world.World.new.Goals as goal

pub invariant_of-result : goal.invariant_of-result
invariant_of-result c =
    (subst IsWorld (sym c.in_ok-root.ensures) IsWorld-new_world, new_no_later _ c.none.ensures)

pub returns-clause-new : goal.returns-clause-new
returns-clause-new c = new_is _ _ c.in_ok-root.ensures c.none.ensures

pub returns-clause-valid : goal.returns-clause-valid
returns-clause-valid c = subst IsWorld (sym c.in_ok-root.ensures) IsWorld-new_world
