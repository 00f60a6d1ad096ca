use Rattle.hc_dfa.proofs.Closures.{gathers_new, gathers_old}
use Rattle.hc_dfa.proofs.subsets.add.Goals as goal

pub returns-then-stands_at-clause-set : goal.returns-then-stands_at-clause-set
returns-then-stands_at-clause-set c =
    gathers_old _ c.args.state (rw c.deref.ensures.value at (c.stands_at.ensures c.if-stands_at.true))

pub returns-clause-set : goal.returns-clause-set
returns-clause-set c = rw c.in_ok-push.ensures.items (gathers_new _ c.args.state)
