use Rattle.std.proofs.Common.{◌∙◌, ◌∷◌, ◌++◌, [], ap, refl}
use Rattle.hc_abs_force.specs.declared.forcing.Forced.{Forced}
use Rattle.hc_abs_force.proofs.marking.alone.Goals as goal

pub returns : goal.returns
returns c =
    let left : Forced = record { tied = c.args.one.tied; marks = c.push.new.self } in (
      left,
      c.in_ok-push-2.ensures.items ∙ ap (λ front. front ++ left ∷ []) c.new-found.ensures.items,
      (refl, c.in_ok-push.ensures.items),
    )
