use Rattle.hc_pat_lang.proofs.Common.{inl, inr, arith, eqb_tells}
use Rattle.hc_pat_lang.proofs.Fragmenting.{fragment_either}
use Rattle.hc_pat_lang.proofs.nodes.Nodes.build_group.Goals as goal

pub returns-then-number-eq0 : goal.returns-then-number-eq0
returns-then-number-eq0 c = elim (eqb_tells c.args.number 0) [
  | inl is ↦ rw is.0 (rw c.anything.ensures at c.in_ok-entries.ensures)
  | inr isnt ↦ absurd (let e = isnt.1 in let f = c.if-number-eq0.true in grind arith)
]

pub returns : goal.returns
returns c = elim (eqb_tells c.args.number 0) [
  | inl is ↦ absurd (let e = is.1 in let f = c.if-number-eq0.false in grind arith)
  | inr isnt ↦ rw isnt.0
      (fragment_either _ _ _ _ _ _ _ _ _ _ (rw c.anything-2.ensures at c.in_ok-turn.ensures)
      (rw c.anything-3.ensures at c.in_ok-unset.ensures) c.in_ok-entries-2.ensures)
]
