use Rattle.hc_serve.proofs.Common.{◌≡◌, drop, with_events}
use Rattle.hc_serve.proofs.force.tell_each.Given as goal

-- what is left to tell, behind what was told, is all
abbrev pub invariant-loop-event : goal.invariant-loop-event
invariant-loop-event l = with_events l.log (drop l.event-index l.events) ≡ with_events l.fn.log l.events
