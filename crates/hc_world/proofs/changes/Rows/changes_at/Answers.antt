use Rattle.hc_world.proofs.Common.{None, Some, sym, ap, ◌∙◌}
use Rattle.hc_world.specs.Changes.{changes_at}
use Rattle.hc_world.proofs.Rows.{changes_at-entry}
use Rattle.hc_world.proofs.changes.Rows.changes_at.Goals as goal

pub returns-in-Some : goal.returns-in-Some
returns-in-Some c =
    sym (changes_at-entry c.self.inside.entries.entries c.args.path.now (Some c.in-Some.row.now)
    c.in-Some.ensures.value)
    ∙ ap (λ rows. changes_at rows c.args.path.now) c.self.view_is

pub returns-in-None : goal.returns-in-None
returns-in-None c =
    sym (changes_at-entry c.self.inside.entries.entries c.args.path.now None c.in-None.ensures.value)
    ∙ ap (λ rows. changes_at rows c.args.path.now) c.self.view_is
