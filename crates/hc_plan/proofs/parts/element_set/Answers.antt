use Rattle.hc_plan.proofs.Elements.{free_set, known_set, open_set}
use Rattle.hc_plan.proofs.parts.element_set.Goals as goal

pub returns-in_ok-set-in-Known : goal.returns-in_ok-set-in-Known
returns-in_ok-set-in-Known c =
    rw c.in-Known.is (known_set c.args.cell.now c.bytes_of.result.now c.in-Known.text _ c.in_ok-set-in-Known.ensures
    c.bytes_of.ensures.value c.bytes_of.ensures.bytes)

pub returns-in_ok-copy-in-Free : goal.returns-in_ok-copy-in-Free
returns-in_ok-copy-in-Free c =
    rw c.in-Free.is (free_set c.args.cell.now c.in-Free.set c.in_ok-copy-in-Free.copy
    c.in_ok-copy-in-Free.ensures.cases)

pub returns-in_ok-set-in-Open : goal.returns-in_ok-set-in-Open
returns-in_ok-set-in-Open c =
    rw c.in-Open.is (open_set c.args.cell.now c.in-Open.slot c.in-Open.skip c.in_ok-own-in-Open.own _
    c.in_ok-own-in-Open.ensures c.in_ok-set-in-Open.ensures)
