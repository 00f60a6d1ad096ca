use Rattle.hc_world.proofs.Common.{rules, ap, ◌∙◌}
use Rattle.hc_world.specs.Rows.{adjusted, with_all}
use Rattle.hc_world.proofs.Rows.{adjusted-none, adjusted-some}
use Rattle.hc_world.proofs.changes.Rows.mark_all.Goals as goal

pub returns : goal.returns
returns c =
    adjusted-some _ _ c.args.path.now (with_all c.args.is_dir c.args.number) c.in-Some.row.now c.with_all.result
    c.in-Some.ensures.value c.with_all.ensures
    ((c.get_mut.follows.holds c.with_all.result).3 (search rules)).0
    ∙ ap (λ rows. adjusted rows c.args.path.now (with_all c.args.is_dir c.args.number)) c.self.view_is

pub returns-in_default : goal.returns-in_default
returns-in_default c =
    adjusted-none _ _ c.args.path.now (with_all c.args.is_dir c.args.number) c.get_mut.follows.holds-at-none
    c.in_default.ensures.value
    ∙ ap (λ rows. adjusted rows c.args.path.now (with_all c.args.is_dir c.args.number)) c.self.view_is
