use Rattle.hc_target.proofs.Common.{◌≡◌, ◌++◌, drop, map, flat_map, below}
use Rattle.hc_target.proofs.segments.Descent.path.Given as goal

abbrev pub invariant-loop-name : goal.invariant-loop-name
invariant-loop-name l =
    l.path.items ++ flat_map below (map (λ n. n.now) (drop l.name-index l.name-items)) ≡ flat_map below l.self.names
