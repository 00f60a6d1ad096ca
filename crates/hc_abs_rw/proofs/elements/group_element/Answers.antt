use Rattle.hc_abs_rw.proofs.Knowing.{group_found}
use Rattle.hc_abs_rw.proofs.elements.group_element.Goals as goal

pub returns-in_ok-texts-in-Some : goal.returns-in_ok-texts-in-Some
returns-in_ok-texts-in-Some c =
    group_found c.args.held.now c.in-Some.found c.deref.result.now c.args.number c.in_ok-texts-in-Some.texts c.in-Some.is
    c.deref.ensures c.if-number-lt-GROUPS.true c.in_ok-texts-in-Some.ensures
