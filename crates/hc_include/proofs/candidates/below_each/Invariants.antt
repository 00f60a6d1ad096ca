use Rattle.hc_include.proofs.Common.{◌≡◌, map, take, in_directory}
use Rattle.hc_include.proofs.candidates.below_each.Given as goal

abbrev pub invariant-loop-path : goal.invariant-loop-path
invariant-loop-path l = l.below ≡ map (λ path. in_directory path l.name) (take l.path-index l.paths)
