use Rattle.std.proofs.lemmas.List.{nil_from_length}
use Rattle.hc_abs_leaves.proofs.Common.{◌∙◌, arith}
use Rattle.hc_abs_leaves.proofs.Growth.{comes_grown, leaf_found, none_left}
use Rattle.hc_abs_leaves.proofs.tree.Tree.next.Goals as goal

pub returns-in_default-clause-leaf : goal.returns-in_default-clause-leaf
returns-in_default-clause-leaf g c =
    let cases = c.in_default.ensures.cases in
    none_left c.args.ground c.args.self.now.pending.items c.loop-turn.self.pending.items c.loop-turn.invariant.0
    c.pop.new.self.items
    (nil_from_length c.loop-turn.self.pending.items (let none = cases.0 in omega (arith, none)))
    (nil_from_length c.pop.new.self.items (let none = cases.1 in omega (arith, none)))

pub returns-in-Ends-clause-leaf : goal.returns-in-Ends-clause-leaf
returns-in-Ends-clause-leaf g c =
    leaf_found c.args.ground c.args.self.now.pending.items c.loop-turn.self.pending.items c.loop-turn.invariant.0
    c.pop.new.self.items c.in-Some.one c.in-Some.ensures.items c.in-Ends.leaf c.in-Ends.is

pub returns-in_err-grow-in-Goes-clause-over : goal.returns-in_err-grow-in-Goes-clause-over
returns-in_err-grow-in-Goes-clause-over g c = (
  c.grow.ensures.over.0 ∙ c.loop-turn.invariant.1,
  λ each is. c.grow.ensures.over.1 each (c.loop-turn.invariant.2 each is),
)

pub loop-turn-preserved : goal.loop-turn-preserved
loop-turn-preserved g c = (
  comes_grown c.args.ground c.args.self.now.pending.items c.loop-turn.self.pending.items c.loop-turn.invariant.0
      c.pop.new.self.items c.in-Some.one c.in-Some.ensures.items c.in-Goes.node c.grow.new.pending.items c.in-Goes.is
      c.in_ok-grow-in-Goes.ensures.grown,
  c.grow.ensures.over.0 ∙ c.loop-turn.invariant.1,
  λ each is. c.grow.ensures.over.1 each (c.loop-turn.invariant.2 each is),
)
