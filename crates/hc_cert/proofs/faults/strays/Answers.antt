use Rattle.std.proofs.Common.{◌∙◌, option_map, subst, sym}
use Rattle.hc_plan.specs.Hands.{cell_of}
use Rattle.hc_cert.proofs.Faulty.{lies_there}
use Rattle.hc_cert.specs.Cells.{Belongs}
use Rattle.hc_cert.specs.Coded.{named_in}
use Rattle.hc_cert.proofs.faults.strays.Goals as goal

pub returns-in-Some-2 : goal.returns-in-Some-2
returns-in-Some-2 c from =
    let own = c.args.segment.now in
    let at = c.in-Some.at in
    lies_there c.args.scene from own at c.in-Some-2._to.now (sym c.in_ok-at.ensures ∙ c.in-Some.is)
    (subst (λ found. Belongs (cell_of (own.tied).cell) at (named_in c.args.scene.cells.now)
    (option_map (λ own. own.now) found)) c.in-Some-2.is c.in_ok-_to.ensures)
