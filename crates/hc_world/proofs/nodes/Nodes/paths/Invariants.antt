use Rattle.hc_world.proofs.Common.{◌≡◌, filter, get, map}
use Rattle.hc_world.specs.Places.{is_listed}
use Rattle.hc_world.proofs.Listed.{bytes_of}
use Rattle.hc_world.proofs.nodes.Nodes.paths.Given as goal

abbrev pub invariant-loop-path : goal.invariant-loop-path
invariant-loop-path l = l.paths ≡ filter (λ path. is_listed l.kind (get l.self path)) (map bytes_of l.yielded)
