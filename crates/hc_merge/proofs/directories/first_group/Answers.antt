use Rattle.std.proofs.Common.{subst}
use Rattle.hc_merge.specs.CandidateView.{sections_view}
use Rattle.hc_merge.specs.Overriding.{AreLoaded}
use Rattle.hc_merge.proofs.Loading.{loaded_parts, more_first, wanted_here}
use Rattle.hc_merge.proofs.directories.first_group.Goals as goal

-- What is to be loaded here, and what further down.
pub with_override-requires : goal.with_override-requires
with_override-requires g c =
    (loaded_parts _ _ _
    (subst (AreLoaded _)
    (wanted_here (sections_view c.args.sections) c.args.dirs.now c.loop-dir.dir-index c.dir-item.result
    c.loop-dir.so_far.allowed c.in_ok-so_far.so_far.allowed c.loop-dir-test.true c.dir-item.is
    c.in_ok-so_far.ensures.allowed) c.loop-dir.invariant.1)).0
