use Rattle.std.proofs.Common.{◌≡◌, ◌++◌, drop, map}
use Rattle.hc_merge.specs.CandidateView.{sections_view}
use Rattle.hc_merge.specs.Overriding.{nothing_allowed, wanted}
use Rattle.hc_merge.specs.WantedView.{loaded_of}
use Rattle.hc_merge.proofs.overriding.wanted_among.Given as goal

abbrev pub invariant-loop-dir : goal.invariant-loop-dir
invariant-loop-dir l =
    wanted (sections_view l.sections) nothing_allowed l.dirs
    ≡ map loaded_of l.list.items ++ wanted (sections_view l.sections) l.allowed (drop l.dir-index l.dirs)
