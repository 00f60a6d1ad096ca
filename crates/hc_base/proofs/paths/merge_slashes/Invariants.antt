use Rattle.std.proofs.Common.{◌≡◌, ◌++◌, drop}
use Rattle.hc_base.specs.Paths.{merge_slashes}
use Rattle.hc_base.proofs.paths.merge_slashes.Given as goal

-- what was merged, and what is still to come
abbrev pub invariant-loop-index : goal.invariant-loop-index
invariant-loop-index l = l.merged.items ++ merge_slashes (drop l.index l.bytes) ≡ merge_slashes l.bytes
