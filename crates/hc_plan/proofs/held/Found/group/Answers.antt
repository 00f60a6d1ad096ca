use Rattle.std.proofs.Common.{subst}
use Rattle.hc_plan.proofs.HandSets.{is_group_set}
use Rattle.hc_plan.specs.Ways.{IsHandSet}
use Rattle.hc_plan.proofs.held.Found.group.Goals as goal

pub returns : goal.returns
returns c =
    let found = c.args.self.now in
    is_group_set found c.args.number c.in_ok-texts.texts c.in_ok-made.made
    (subst (λ elements. IsHandSet found.cell elements found.off found.side c.in_ok-texts.texts) c.deref.ensures.value
    c.in_ok-texts.ensures)
    c.in_ok-made.ensures
