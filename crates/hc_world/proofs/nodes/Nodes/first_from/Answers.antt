use Rattle.hc_world.proofs.Common.{◌≡◌, [], sym, ◌∙◌, subst, IsFirstFrom, keys_from, world_of}
use Rattle.hc_world.proofs.Places.{first_in_world, none_in_world}
use Rattle.hc_world.proofs.nodes.Nodes.first_from.Goals as goal

pub returns-in-Some-clause-some : goal.returns-in-Some-clause-some
returns-in-Some-clause-some c =
    let place = c.args.place.now in
    let world = world_of c.self.inside.entries.entries in
    let first = sym (c.range.ensures.between tt) ∙ c.in-Some.ensures.steps in
    subst (IsFirstFrom place.items c.as_slice.result.now) c.self.view_is
    (subst (λ path. IsFirstFrom place.items path world) (sym c.as_slice.ensures.value)
    (first_in_world place c.self.inside.entries.entries c.next.new.self (c.in-Some.path.now, c.in-Some.field-0-1.now)
    c.range.ensures.ordered first))

pub returns-in-None-clause-none : goal.returns-in-None-clause-none
returns-in-None-clause-none c =
    subst (λ world. keys_from c.args.place.now.items world ≡ []) c.self.view_is
    (none_in_world c.args.place.now c.self.inside.entries.entries c.range.ensures.ordered
    (sym (c.range.ensures.between tt) ∙ c.in-None.ensures.steps.0))
