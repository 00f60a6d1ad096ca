use Rattle.std.proofs.Common.{length}
use Rattle.hc_vhost.specs.NamesView.{LeadsTo}
use Rattle.hc_vhost.proofs.name.front_of.Given as goal

abbrev pub invariant-loop-front : goal.invariant-loop-front
invariant-loop-front l = LeadsTo l.fn.alias l.fn.name l.alias l.name

abbrev pub decreases-loop-front : goal.decreases-loop-front
decreases-loop-front l = length l.alias
