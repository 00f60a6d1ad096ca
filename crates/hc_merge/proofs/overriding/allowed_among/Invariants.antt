use Rattle.std.proofs.Common.{◌≡◌, drop, filter}
use Rattle.hc_merge.specs.Candidates.{is_of}
use Rattle.hc_merge.specs.Overriding.{allowed_behind}
use Rattle.hc_merge.proofs.overriding.allowed_among.Given as goal

abbrev pub invariant-loop-section : goal.invariant-loop-section
invariant-loop-section l =
    allowed_behind l.fn.so_far (filter (is_of l.dir) l.sections)
    ≡ allowed_behind l.allowed (filter (is_of l.dir) (drop l.section-index l.sections))
