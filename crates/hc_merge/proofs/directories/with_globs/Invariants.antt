use Rattle.std.proofs.Common.{◌≡◌, ◌++◌, drop, map, filter}
use Rattle.hc_merge.specs.CandidateView.{candidates_of}
use Rattle.hc_merge.specs.Candidates.{at_directory, is_of}
use Rattle.hc_merge.specs.Overriding.{allowed_behind}
use Rattle.hc_merge.proofs.directories.with_globs.Given as goal

abbrev pub invariant-loop-section : goal.invariant-loop-section
invariant-loop-section l =
    (candidates_of l.fn.so_far.list ++ map (at_directory l.dir) (filter (is_of l.dir) l.sections)
    ≡ candidates_of l.so_far.list ++ map (at_directory l.dir)
    (filter (is_of l.dir) (drop l.section-index l.sections)))
    × (allowed_behind l.fn.so_far.allowed (filter (is_of l.dir) l.sections)
    ≡ allowed_behind l.so_far.allowed (filter (is_of l.dir) (drop l.section-index l.sections)))
