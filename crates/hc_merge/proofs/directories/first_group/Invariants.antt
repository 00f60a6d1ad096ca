use Rattle.std.proofs.Common.{◌≡◌, ◌++◌, drop}
use Rattle.hc_merge.specs.CandidateView.{candidates_of, sections_view}
use Rattle.hc_merge.specs.Order.{first_group}
use Rattle.hc_merge.specs.Overriding.{AreLoaded, files_read, nothing_allowed, wanted}
use Rattle.hc_merge.proofs.directories.first_group.Given as goal

abbrev pub invariant-loop-dir : goal.invariant-loop-dir
invariant-loop-dir g l =
    (first_group (sections_view l.sections) (files_read (g.O.Overrides.reading (g.O.Overrides.fixed l.over)))
    nothing_allowed l.dirs
    ≡ candidates_of l.so_far.list
    ++ first_group (sections_view l.sections) (files_read (g.O.Overrides.reading (g.O.Overrides.fixed l.over)))
    l.so_far.allowed (drop l.dir-index l.dirs))
    × AreLoaded (g.O.Overrides.loaded l.over)
    (wanted (sections_view l.sections) l.so_far.allowed (drop l.dir-index l.dirs))
