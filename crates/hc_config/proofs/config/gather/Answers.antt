use Rattle.std.proofs.Common.{◌≡◌, [], ◌∷◌, drop, Err, ap, subst, sym, ◌∙◌, arith}
use Rattle.std.proofs.lemmas.Result.{err_from_is_err_and}
use Rattle.hc_base.specs.Gives.{Gives}
use Rattle.hc_flat.specs.EntriesView.{entry_of}
use Rattle.hc_flat.specs.Lent.{left}
use Rattle.hc_config.specs.Configuration.{gathered_from}
use Rattle.hc_config.specs.Levels.{nothing_standing}
use Rattle.hc_config.specs.LevelViews.{gathered_view, standing_of}
use Rattle.hc_config.proofs.Gathering.{gathered_broken, gathered_faulted, gathered_more}
use Rattle.hc_config.proofs.Places.{next_place}
use Rattle.hc_config.proofs.config.gather.Goals as goal

pub loop-place-preserved : goal.loop-place-preserved
loop-place-preserved c =
    let all = c.args.entries.now in
    let place = c.loop-place.place in
    let entry = entry_of c.in-Some.entry in
    let rest = left c.next.new.self in
    let held = c.loop-place.invariant in
    let here : drop place all ≡ entry ∷ rest = held.1 ∙ c.in-Some.ensures.steps in (
      held.0 ∙ ap (gathered_from _ _ _) (sym held.1) ∙ gathered_more all rest place entry c.args.source
          (standing_of c.loop-place.standing) c.context.result c.container.result c.is_wild.result here
          c.context.ensures
          c.container.ensures c.is_wild.ensures c.in-Ok.effect c.in-Ok.ensures (standing_of c.perform.new.standing)
          c.in_ok-perform-in-Ok.ensures,
      next_place all place entry rest here,
      omega (arith, rw c.in-Some.ensures.steps at held.2),
    )

pub returns-in_err-perform-in-Ok : goal.returns-in_err-perform-in-Ok
returns-in_err-perform-in-Ok c =
    let all = c.args.entries.now in
    let place = c.loop-place.place in
    let entry = entry_of c.in-Some.entry in
    let rest = left c.next.new.self in
    let held = c.loop-place.invariant in
    let here : drop place all ≡ entry ∷ rest = held.1 ∙ c.in-Some.ensures.steps in
    let whole = gathered_from c.args.source nothing_standing [] all in
    let exit = err_from_is_err_and c.from_residual.result c.from_residual.ensures.1 in
    subst (λ result. Gives (gathered_view result) whole) (sym (exit.1 ∙ ap Err exit.2))
    (gathered_faulted all rest place entry c.args.source (standing_of c.loop-place.standing) c.context.result
    c.container.result c.is_wild.result here c.context.ensures c.container.ensures c.is_wild.ensures c.in-Ok.effect
    c.in-Ok.ensures c.in_err-perform-in-Ok.field-0.0 whole (held.0 ∙ ap (gathered_from _ _ _) (sym held.1))
    c.in_err-perform-in-Ok.ensures)

pub returns-in-Err-Refused : goal.returns-in-Err-Refused
returns-in-Err-Refused c =
    let all = c.args.entries.now in
    let place = c.loop-place.place in
    let entry = entry_of c.in-Some.entry in
    let rest = left c.next.new.self in
    let held = c.loop-place.invariant in
    let here : drop place all ≡ entry ∷ rest = held.1 ∙ c.in-Some.ensures.steps in
    let judged_is = rw c.in-Err-Refused.field-0-is at c.in-Err-Refused.ensures in
    let broken =
    gathered_broken all rest place entry c.args.source (standing_of c.loop-place.standing) c.context.result
    c.container.result c.is_wild.result here c.context.ensures c.container.ensures c.is_wild.ensures
    c.in-Err-Refused.broken judged_is in
    subst (Gives (gathered_view c.refused.result)) (sym (held.0 ∙ ap (gathered_from _ _ _) (sym held.1) ∙ broken))
    (rw c.in-Err-Refused.field-0-is at c.refused.ensures)
