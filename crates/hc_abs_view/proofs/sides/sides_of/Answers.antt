use Rattle.std.proofs.Common.{subst, sym}
use Rattle.std.specs.Prelude.{IfOk}
use Rattle.hc_abs_view.specs.Jumping.{asked_ways}
use Rattle.hc_abs_view.specs.Seen.{AreSides}
use Rattle.hc_abs_view.specs.Tokens.{asked_of}
use Rattle.hc_abs_view.specs.Viewing.{scene_of}
use Rattle.hc_abs_view.proofs.sides.sides_of.Goals as goal

pub returns-in-Always : goal.returns-in-Always
returns-in-Always c =
    let scene = c.args.scene in
    subst (λ leaf. IfOk c.always_sides.result (AreSides scene (asked_ways (scene_of scene) (asked_of leaf) c.args.negated)
    c.args.tied.now)) (sym c.in-Always.is) c.always_sides.ensures

pub returns-in-Same : goal.returns-in-Same
returns-in-Same c =
    let scene = c.args.scene in
    subst (λ leaf. IfOk c.compared_sides.result (AreSides scene (asked_ways (scene_of scene) (asked_of leaf) c.args.negated)
    c.args.tied.now)) (sym c.in-Same.is) c.compared_sides.ensures

pub returns-in-Search : goal.returns-in-Search
returns-in-Search c =
    let scene = c.args.scene in
    subst (λ leaf. IfOk c.found_sides.result (AreSides scene (asked_ways (scene_of scene) (asked_of leaf) c.args.negated)
    c.args.tied.now)) (sym c.in-Search.is) c.found_sides.ensures

pub returns-in-Within : goal.returns-in-Within
returns-in-Within c =
    let scene = c.args.scene in
    subst (λ leaf. IfOk c.within_sides.result (AreSides scene (asked_ways (scene_of scene) (asked_of leaf) c.args.negated)
    c.args.tied.now)) (sym c.in-Within.is) c.within_sides.ensures
