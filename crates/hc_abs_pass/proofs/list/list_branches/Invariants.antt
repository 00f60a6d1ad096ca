use Rattle.hc_abs_pass.proofs.Common.{List, length}
use Rattle.hc_abs_rw.specs.Known.{frame_at}
use Rattle.hc_abs_pass.specs.Listing.{AreListed}
use Rattle.hc_abs_pass.specs.declared.list.Listed.{Listed}
use Rattle.hc_abs_pass.proofs.Listing.{InList}
use Rattle.hc_abs_pass.proofs.list.list_branches.Given as goal

-- what is left of the list leads to the whole
abbrev pub invariant-loop-rule : goal.invariant-loop-rule
invariant-loop-rule g l =
    (found : List Listed)
    → InList (frame_at g.S.Surroundings.kind g.S.Surroundings.values l.frame) l.frame.client l.rest l.placed.items
    found
    → AreListed (frame_at g.S.Surroundings.kind g.S.Surroundings.values l.frame) l.frame.client l.rules l.fn.so_far
    l.fn.before found

abbrev pub decreases-loop-rule : goal.decreases-loop-rule
decreases-loop-rule g l = length l.rest
