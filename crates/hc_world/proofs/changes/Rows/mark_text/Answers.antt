use Rattle.hc_world.proofs.Common.{refl, rules, ap, ◌∙◌}
use Rattle.hc_world.specs.Rows.{adjusted, with_text}
use Rattle.hc_world.specs.declared.changes.Changes.{Changes}
use Rattle.hc_world.proofs.Rows.{adjusted-none, adjusted-some}
use Rattle.hc_world.proofs.changes.Rows.mark_text.Goals as goal

pub returns : goal.returns
returns c =
    let row : Changes =
    record { kind = c.in-Some.row.now.kind; text = c.args.number; names = c.in-Some.row.now.names } in
    adjusted-some _ _ c.args.path.now (with_text c.args.number) c.in-Some.row.now row c.in-Some.ensures.value refl
    ((c.get_mut.follows.holds row).3 (search rules)).0
    ∙ ap (λ rows. adjusted rows c.args.path.now (with_text c.args.number)) c.self.view_is

pub returns-in_default : goal.returns-in_default
returns-in_default c =
    adjusted-none _ _ c.args.path.now (with_text c.args.number) c.get_mut.follows.holds-at-none
    c.in_default.ensures.value
    ∙ ap (λ rows. adjusted rows c.args.path.now (with_text c.args.number)) c.self.view_is
