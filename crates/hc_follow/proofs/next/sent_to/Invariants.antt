use Rattle.std.proofs.Common.{◌≡◌, drop}
use Rattle.hc_follow.specs.Next.{sent_to}
use Rattle.hc_follow.proofs.next.sent_to.Given as goal

-- what is left decides
abbrev pub invariant-loop-origin : goal.invariant-loop-origin
invariant-loop-origin l =
    sent_to l.from l.status (drop l.origin-index l.hosts) l.location ≡ sent_to l.from l.status l.hosts l.location
