use Rattle.std.proofs.Common.{◌∙◌, option_map, subst, sym}
use Rattle.hc_plan.specs.Hands.{cell_of}
use Rattle.hc_cert.proofs.Faulty.{grows_so, lies_nowhere}
use Rattle.hc_cert.specs.Cells.{Belongs}
use Rattle.hc_cert.specs.Coded.{named_in}
use Rattle.hc_cert.proofs.faults.stalls.Goals as goal

pub returns-in_default-2 : goal.returns-in_default-2
returns-in_default-2 c =
    let own = c.args.segment.now in
    let at = c.in-Some.at in
    lies_nowhere c.args.scene c.args.from.now own at (sym c.in_ok-at.ensures ∙ c.in-Some.is)
    (subst (λ found. Belongs (cell_of (own.tied).cell) at (named_in c.args.scene.cells.now)
    (option_map (λ own. own.now) found)) c.in_default-2.is c.in_ok-to.ensures)

pub returns-then-grows : goal.returns-then-grows
returns-then-grows c =
    let own = c.args.segment.now in
    let at = c.in-Some.at in
    grows_so c.args.scene c.args.from.now own at c.in-Some-2.to.now (sym c.in_ok-at.ensures ∙ c.in-Some.is)
    (subst (λ found. Belongs (cell_of (own.tied).cell) at (named_in c.args.scene.cells.now)
    (option_map (λ own. own.now) found)) c.in-Some-2.is c.in_ok-to.ensures)
    (sym c.grows.ensures ∙ c.if-grows.true)
