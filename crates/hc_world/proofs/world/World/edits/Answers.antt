use Rattle.hc_world.proofs.Counted.{no_later}
use Rattle.hc_world.proofs.world.World.edits.Goals as goal

pub returns-clause-last : goal.returns-clause-last
returns-clause-last c = no_later c.args.self.now c.self.inside.edits _ _ c.self.view_is c.self.invariant.1
