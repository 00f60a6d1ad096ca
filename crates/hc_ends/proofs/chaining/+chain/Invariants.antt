use Rattle.std.proofs.Common.{◌≡◌, ◌+◌, ◌*◌, ◌-◌, drop}
use Rattle.hc_addr.specs.declared.addr.Addr.{Addr}
use Rattle.hc_model.specs.Overrides.{Kept}
use Rattle.hc_model.specs.declared.request.Caller.{Caller}
use Rattle.hc_abs_tree.specs.Trees.{Leaf}
use Rattle.hc_ends.specs.Chains.{caller_of}
use Rattle.hc_ends.specs.Lending.{site_of}
use Rattle.hc_ends.proofs.Chained.{LeavesSoFar, LedsSoFar}
use Rattle.hc_ends.proofs.chaining.+chain.Given as goal

abbrev pub decreases-add_chains : goal.decreases-add_chains
decreases-add_chains g l = 5 * l.stage.left + 4

abbrev pub decreases-add_leaf : goal.decreases-add_leaf
decreases-add_leaf g l = 5 * l.stage.left + 3

abbrev pub decreases-add_sent : goal.decreases-add_sent
decreases-add_sent g l = 5 * l.stage.left + 2

abbrev pub decreases-add_leds : goal.decreases-add_leds
decreases-add_leds g l = 5 * l.stage.left + 1

abbrev pub invariant-add_chains-loop-leaf : goal.invariant-add_chains-loop-leaf
invariant-add_chains-loop-leaf g l =
    LeavesSoFar l.stage (caller_of (site_of l.stage.chains) l.stage.scope.now) l.leaf-items l.leaf-index
    l.initial.found l.found
    × (g.O.Overrides.fixed l.over ≡ g.O.Overrides.fixed l.initial.over)
    × Kept (g.O.Overrides.loaded l.initial.over) (g.O.Overrides.loaded l.over)

abbrev pub invariant-add_leds-loop-led : goal.invariant-add_leds-loop-led
invariant-add_leds-loop-led g l =
    LedsSoFar l.stage l.leaf l.status l.leds l.led-index l.initial.found l.found
    × (g.O.Overrides.fixed l.over ≡ g.O.Overrides.fixed l.initial.over)
    × Kept (g.O.Overrides.loaded l.initial.over) (g.O.Overrides.loaded l.over)
