use Rattle.std.proofs.Common.{drop}
use Rattle.hc_abs_rw.specs.Applied.{AreSet}
use Rattle.hc_abs_rw.specs.Known.{frame_at}
use Rattle.hc_abs_rw.specs.declared.known.Known.{Known}
use Rattle.hc_abs_rw.proofs.effect.with_sets.Given as goal

abbrev pub invariant-loop-set : goal.invariant-loop-set
invariant-loop-set g l =
    (left : Known)
    → AreSet (frame_at g.S.Surroundings.kind g.S.Surroundings.values l.frame) l.frame.client (drop l.set-index l.sets)
    l.left left
    → AreSet (frame_at g.S.Surroundings.kind g.S.Surroundings.values l.frame) l.frame.client l.sets l.fn.known left
