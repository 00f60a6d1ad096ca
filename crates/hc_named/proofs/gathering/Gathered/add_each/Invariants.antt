use Rattle.std.proofs.Common.{◌≡◌, drop}
use Rattle.std.specs.List.{flat_map}
use Rattle.hc_named.specs.Gathering.{with_vars}
use Rattle.hc_named.proofs.gathering.Gathered.add_each.Given as goal

-- what is left gives what all give
abbrev pub invariant-loop-item : goal.invariant-loop-item
invariant-loop-item g l = with_vars l.self (flat_map g.T.Naming.vars (drop l.item-index l.items))
    ≡ with_vars l.fn.self (flat_map g.T.Naming.vars l.items)
