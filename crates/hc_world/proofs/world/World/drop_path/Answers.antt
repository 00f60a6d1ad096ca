use Rattle.hc_world.specs.Edits.{dropped}
use Rattle.hc_world.proofs.Counted.{counted, refused, IsNoLater-same}
use Rattle.hc_world.proofs.world.World.drop_path.Goals as goal

pub returns-in-Ok-clause-edit : goal.returns-in-Ok-clause-edit
returns-in-Ok-clause-edit c =
    counted (λ w. dropped w c.args.path.now) c.args.self.now c.self.inside.edits c.self.inside.files.nodes _ _ _
    c.self.view_is c.in-Ok.ensures.edit c.in-Ok.ensures.marked

pub returns-in-Err-clause-edit : goal.returns-in-Err-clause-edit
returns-in-Err-clause-edit c =
    refused (λ w. dropped w c.args.path.now) c.args.self.now c.in-Err.fault c.self.inside.edits _ _ _ _ c.self.view_is
    c.in-Err.ensures.edit c.in-Err.ensures.marked

pub invariant_of-self-in-Err : goal.invariant_of-self-in-Err
invariant_of-self-in-Err c =
    (c.in-Err.ensures.valid, IsNoLater-same c.self.inside.edits _ _ c.self.invariant.1 c.in-Err.ensures.marked)
