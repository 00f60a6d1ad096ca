use Rattle.hc_dfa.proofs.Common.{ℕ, subst, arith, AreLeaders}
use Rattle.hc_dfa.proofs.Merged.{merged}
use Rattle.hc_dfa.proofs.reduced.merge.Goals as goal

pub returns : goal.returns
returns c =
    let blocks = c.in_ok-blocks.blocks.items in
    let leaders = c.in_ok-leaders.leaders.items in
    let len = c.in_ok-blocks.ensures.len in
    merged c.args.a.now c.in_ok-merged.merged blocks leaders c.in_ok-table.table.items c.states.ensures.table
    c.in_ok-blocks.ensures
    (subst (λ (n : ℕ). AreLeaders n blocks leaders) len (rw c.deref.ensures.value at c.in_ok-leaders.ensures))
    (λ s below. (rw (c.deref-2.ensures.value, c.deref-3.ensures.value) at c.in_ok-table.ensures.each) s
    (omega (arith, len, below)))
    (rw c.deref-4.ensures.value at c.in_ok-merged.ensures.steps)
    c.in_ok-merged.ensures.finals
