use Rattle.hc_world.proofs.Common.{Err, EditsFiles, ap, sym, subst, ◌∙◌, put_file, text}
use Rattle.hc_world.proofs.Counted.{counted, refused, IsNoLater-same}
use Rattle.hc_world.proofs.world.World.put.Goals as goal

pub returns-in-Ok-clause-edit : goal.returns-in-Ok-clause-edit
returns-in-Ok-clause-edit c =
    counted (λ w. put_file w c.args.path.now (text c.args.text.now)) c.args.self.now c.self.inside.edits
    c.self.inside.files.nodes _ _ _ c.self.view_is
    (ap (λ b. put_file c.self.inside.files.nodes c.args.path.now (text b)) (sym c.in_ok-text.ensures.ok)
    ∙ c.in-Ok.ensures.edit) c.in-Ok.ensures.marked

pub returns-in-Err-clause-edit : goal.returns-in-Err-clause-edit
returns-in-Err-clause-edit c =
    refused (λ w. put_file w c.args.path.now (text c.args.text.now)) c.args.self.now c.in-Err.fault c.self.inside.edits
    _ _ _ _ c.self.view_is
    (subst (λ b. EditsFiles (Err c.in-Err.fault) c.self.inside.files.nodes c.put_file.new.files.nodes
    (put_file c.self.inside.files.nodes c.args.path.now (text b))) c.in_ok-text.ensures.ok c.in-Err.ensures.edit)
    c.in-Err.ensures.marked

pub invariant_of-self-in-Err : goal.invariant_of-self-in-Err
invariant_of-self-in-Err c =
    (c.in-Err.ensures.kept.valid, IsNoLater-same c.self.inside.edits _ _ c.self.invariant.1 c.in-Err.ensures.marked)
