use Rattle.hc_abs_map.proofs.Targets.{group_some}
use Rattle.hc_abs_map.proofs.aliases.held_element.Goals as goal

pub returns-in_ok-texts-in-Some : goal.returns-in_ok-texts-in-Some
returns-in_ok-texts-in-Some c =
    group_some c.args.held.now c.in-Some.found c.args.number c.in_ok-texts-in-Some.texts c.in-Some.is
    c.in_ok-texts-in-Some.ensures
