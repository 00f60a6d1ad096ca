use Rattle.hc_include.proofs.Common.{◌≡◌, drop}
use Rattle.std.specs.BTreeSet.{insert_key}
use Rattle.std.specs.Cmp.Lexicographic.{slice_cmp}
use Rattle.std.specs.List.{fold}
use Rattle.std.specs.Ordering.{nat_cmp}
use Rattle.hc_include.specs.Include.{in_byte_order}
use Rattle.hc_include.proofs.order.in_byte_order.Given as goal

-- what is in order, over what is left, is all in order
abbrev pub invariant-loop-path : goal.invariant-loop-path
invariant-loop-path l = in_byte_order l.paths ≡ fold (insert_key (slice_cmp nat_cmp)) l.sorted.keys
    (drop l.path-index l.paths)
