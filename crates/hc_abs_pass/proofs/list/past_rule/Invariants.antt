use Rattle.hc_abs_rw.specs.Known.{frame_at}
use Rattle.hc_abs_pass.specs.Listing.{ArePast}
use Rattle.hc_abs_pass.proofs.list.past_rule.Given as goal

abbrev pub invariant-loop-one : goal.invariant-loop-one
invariant-loop-one g l =
    ArePast (frame_at g.S.Surroundings.kind g.S.Surroundings.values l.frame) l.frame.client l.rule l.behind l.yielded
    l.later.items
