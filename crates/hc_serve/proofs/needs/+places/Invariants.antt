use Rattle.hc_serve.proofs.Common.{◌≡◌, ◌++◌}
use Rattle.std.proofs.Common.{map, take}
use Rattle.hc_serve.specs.Needs.{all_of, places_in}
use Rattle.hc_serve.proofs.needs.+places.Given as goal

abbrev pub invariant-with_each-loop-tree : goal.invariant-with_each-loop-tree
invariant-with_each-loop-tree l = l.list ≡ l.fn.list ++ all_of (map places_in (take l.tree-index l.trees))
