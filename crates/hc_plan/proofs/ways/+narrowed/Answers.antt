use Rattle.std.proofs.Common.{subst}
use Rattle.std.proofs.lemmas.Result.{IfOk-weaker}
use Rattle.hc_cells.specs.Cells.{holds}
use Rattle.hc_dfa.specs.Automata.{accepts}
use Rattle.hc_plan.proofs.Narrowed.{first_and_rest, last_narrowed, narrowed_more, none_left}
use Rattle.hc_plan.specs.Ways.{IsEmptyAnswer}
use Rattle.hc_plan.proofs.ways.+narrowed.Goals as goal

pub returns-then-branch : goal.returns-then-branch
returns-then-branch t c =
    let none = subst (IsEmptyAnswer (holds c.in_ok-made.made c.args.slot.now)) c.if-branch.true
    c.in_ok-is_empty_at.ensures in
    none_left c.args.cell.now c.in_ok-made.made c.args.slot.now c.args.rest.now (accepts c.args.set.now)
    c.in_ok-made.ensures none

pub returns-in-empty : goal.returns-in-empty
returns-in-empty t c =
    let some = subst (IsEmptyAnswer (holds c.in_ok-made.made c.args.slot.now)) c.if-branch.false
    c.in_ok-is_empty_at.ensures in
    last_narrowed c.args.cell.now c.in_ok-made.made c.args.slot.now c.args.rest.now (accepts c.args.set.now)
    c.in-empty.len_below c.in_ok-made.ensures some

pub returns-in-len1-up : goal.returns-in-len1-up
returns-in-len1-up t c =
    let some = subst (IsEmptyAnswer (holds c.in_ok-made.made c.args.slot.now)) c.if-branch.false
    c.in_ok-is_empty_at.ensures in
    let slots = first_and_rest c.args.rest.now c.next-item.result c.in-len1-up.len_at_least c.next-item.is in
    IfOk-weaker c.narrowed.result _ _
    (λ found is. narrowed_more c.args.cell.now c.in_ok-made.made c.args.slot.now c.next-item.result c.args.rest.now _
    (accepts c.args.set.now) slots c.in_ok-made.ensures some found is) c.narrowed.ensures
