use Rattle.std.proofs.Common.{◌≡◌, ◌∙◌, ◌-◌, ◌<◌, IfOk, ap, arith, subst, sym}
use Rattle.std.specs.Prelude.{option_and_then, option_map}
use Rattle.serde_json.specs.View.{view}
use Rattle.hc_regset.specs.Forms.{form_of}
use Rattle.hc_stated.specs.Shapes.{set_with, set_within}
use Rattle.hc_stated.specs.Views.{keyed_view}
use Rattle.hc_stated.proofs.Within.{within}
use Rattle.hc_stated.proofs.shape.+shape.Goals as goal

pub set_within-returns-in-Some : goal.set_within-returns-in-Some
set_within-returns-in-Some t c =
    let less = c.args.room - 1 in
    let some : 0 < c.args.room = omega (arith, c.if-room-eq0.false) in
    let keyed = sym c.sole.ensures ∙ ap (option_map keyed_view) c.in-Some.is in
    subst (λ whole. IfOk c.set_keyed.result (λ set. option_map form_of set ≡ whole))
    (sym (
    within c.args.room some (view c.args.value.now)
    ∙ ap (option_and_then (set_with (set_within less))) keyed))
    c.set_keyed.ensures
