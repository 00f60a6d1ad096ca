use Rattle.hc_sent.proofs.Meeting.{asking_any, asking_own, met_in}
use Rattle.hc_sent.specs.Ways.{IsQuery, is_query}
use Rattle.hc_sent.proofs.sites.Site.next_queries.Goals as goal

pub returns-then-escapes : goal.returns-then-escapes
returns-then-escapes c parts before origin site said =
    asking_any parts before origin _ c.in_ok-targets.ensures (rw c.if-escapes.true at said)

pub returns : goal.returns
returns c parts before origin site said =
    asking_own parts before origin _
    (met_in (IsQuery parts before origin) _ _ is_query site.way.queries c.in_ok-targets.ensures _ c.in_ok-made.ensures)
    (rw c.if-escapes.false at said)
