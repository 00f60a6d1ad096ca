use Rattle.hc_include.proofs.Common.{◌≡◌, ◌++◌, map, take, in_directory, matches}
use Rattle.std.specs.List.{filter}
use Rattle.hc_include.proofs.candidates.with_paths.Given as goal

abbrev pub invariant-loop-name : goal.invariant-loop-name
invariant-loop-name l =
    l.paths ≡ l.fn.paths ++ map (in_directory l.directory) (filter (matches l.glob) (take l.name-index l.names))
