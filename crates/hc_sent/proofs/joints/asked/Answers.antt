use Rattle.std.proofs.Common.{◌≡◌, [], true, rules}
use Rattle.hc_dfa.specs.Automata.{accepts}
use Rattle.hc_sent.proofs.Joining.{asked_apart}
use Rattle.hc_sent.proofs.joints.asked.Goals as goal

pub returns : goal.returns
returns c =
    let some : accepts c.args.set.now [] ≡ true = search rules in
    asked_apart c.args.set.now c.in_ok-behind.behind _ _ _ _ some c.in_ok-behind.ensures c.in_ok-mark.ensures
    c.in_ok-filled.ensures c.in_ok-empty.ensures c.in_ok-made.ensures
