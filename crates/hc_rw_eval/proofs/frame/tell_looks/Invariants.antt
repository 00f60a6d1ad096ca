use Rattle.hc_rw_eval.proofs.Common.{◌≡◌}
use Rattle.std.specs.Vec.Iter.{into_iter_items}
use Rattle.hc_steps.specs.Ran.{with_reads}
use Rattle.hc_rw_eval.proofs.frame.tell_looks.Given as goal

-- what was told, and what is left to tell
abbrev pub invariant-loop-look : goal.invariant-loop-look
invariant-loop-look l = with_reads l.log (into_iter_items l.look-iterator) ≡ with_reads l.fn.log l.fn.looks.items
