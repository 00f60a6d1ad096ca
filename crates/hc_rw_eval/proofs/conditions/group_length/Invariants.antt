use Rattle.hc_rw_eval.proofs.Common.{◌≡◌, ◌+◌, drop}
use Rattle.hc_rw_eval.specs.Groups.{group_length}
use Rattle.hc_rw_eval.proofs.conditions.group_length.Given as goal

abbrev pub invariant-loop-place : goal.invariant-loop-place
invariant-loop-place l = l.place + group_length (drop l.place l.conds) ≡ group_length l.conds
