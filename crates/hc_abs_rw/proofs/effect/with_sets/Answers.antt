use Rattle.std.proofs.Common.{arith}
use Rattle.hc_abs_rw.specs.Known.{frame_at}
use Rattle.hc_abs_rw.proofs.Effects.{all_set, one_more}
use Rattle.hc_abs_rw.proofs.effect.with_sets.Goals as goal

pub loop-set-preserved : goal.loop-set-preserved
loop-set-preserved g c left are =
    c.loop-set.invariant left
    (one_more (frame_at g.S.Surroundings.kind g.S.Surroundings.values c.args.frame.now) c.args.frame.now.client
    c.args.sets.now c.loop-set.set-index c.set-item.result c.loop-set.left c.in_ok-left.left left (omega arith)
    c.set-item.is c.in_ok-left.ensures are)

pub returns : goal.returns
returns g c =
    c.loop-set.invariant c.loop-set.left
    (all_set (frame_at g.S.Surroundings.kind g.S.Surroundings.values c.args.frame.now) c.args.frame.now.client
    c.args.sets.now c.loop-set.set-index c.loop-set.left (omega arith))
