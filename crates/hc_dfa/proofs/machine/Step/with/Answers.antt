use Rattle.hc_dfa.proofs.Steps.{grows_with}
use Rattle.hc_dfa.proofs.machine.Step.with.Goals as goal

pub returns-in_ok-more-in-Some : goal.returns-in_ok-more-in-Some
returns-in_ok-more-in-Some c =
    rw c.in_ok-byte-in-Some.was (grows_with c.args.self c.in-Some.bytes c.in_ok-more-in-Some.more
    c.in_ok-byte-in-Some.field-0 c.args.to c.in-Some.is c.if-self-to.false c.in_ok-more-in-Some.ensures)
