use Rattle.std.proofs.Common.{◌≡◌, ◌+◌, ◌-◌, ◌<◌, length, sym, ◌∙◌, arith}
use Rattle.hc_kept_lines.proofs.Joins.{UnjoinedTo-end, UnjoinedTo-next}
use Rattle.hc_kept_lines.proofs.unjoin.next_join.Goals as goal

pub loop-at-preserved : goal.loop-at-preserved
loop-at-preserved c =
    let bs = c.args.bytes.now in
    let at = c.loop-at.at in
    let e : at - 1 + 1 ≡ at = omega arith in
    let d : at + 1 - 1 ≡ at - 1 + 1 = omega arith in
    let inside : at - 1 + 1 < length bs = omega arith in
    rw d (UnjoinedTo-next bs (at - 1) inside (rw e (sym c.is_join.ensures ∙ c.if-is_join.false)) c.loop-at.invariant)

pub returns-clause-none : goal.returns-clause-none
returns-clause-none c = UnjoinedTo-end c.args.bytes.now (c.loop-at.at - 1) (omega arith) c.loop-at.invariant
