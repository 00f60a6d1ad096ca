use Rattle.std.proofs.Common.{◌∙◌, ◌+◌, sym, ap, subst, refl, arith}
use Rattle.hc_abs_leaves.specs.Growing.{Gives}
use Rattle.hc_ends.proofs.Gathering.{HasPassed, all_passed, many_passed, none_passed, one_passed}
use Rattle.hc_ends.proofs.walking.gather.Goals as goal

pub loop-count-init : goal.loop-count-init
loop-count-init g c = (
  subst (HasPassed c.args.ground c.in_ok-tree.tree 0 c.in_ok-tree.tree) (sym c.new-leaves.ensures.items)
      (none_passed c.args.ground c.in_ok-tree.tree),
  refl,
  λ each is. is,
)

pub next-requires-clause-over : goal.next-requires-clause-over
next-requires-clause-over g c = (
  ap g.O.Overrides.reading c.loop-count.invariant.1 ∙ c.requires.over.0,
  ap g.O.Overrides.size c.loop-count.invariant.1 ∙ c.requires.over.1,
)

pub returns-in_err-leaf-clause-over : goal.returns-in_err-leaf-clause-over
returns-in_err-leaf-clause-over g c = (
  c.next.ensures.over.0 ∙ c.loop-count.invariant.1,
  λ each is. c.next.ensures.over.1 each (c.loop-count.invariant.2 each is),
)

pub returns-in_default-clause-leaves : goal.returns-in_default-clause-leaves
returns-in_default-clause-leaves g c =
    all_passed c.args.ground c.in_ok-tree.tree c.loop-count.tree c.next.new.self c.loop-count._count
    c.loop-count.leaves.items c.loop-count.invariant.0 c.args.tied c.args.limit c.in_ok-tree.ensures
    (subst (Gives c.args.ground c.loop-count.tree c.next.new.self) c.in_default.is c.in_ok-leaf.ensures.leaf)

pub returns-in_default-clause-over : goal.returns-in_default-clause-over
returns-in_default-clause-over g c = (
  c.next.ensures.over.0 ∙ c.loop-count.invariant.1,
  λ each is. c.next.ensures.over.1 each (c.loop-count.invariant.2 each is),
)

pub loop-count-preserved : goal.loop-count-preserved
loop-count-preserved g c = (
  subst (HasPassed c.args.ground c.in_ok-tree.tree (c.loop-count._count + 1) c.next.new.self) (sym
      c.in_ok-push.ensures.items)
      (one_passed c.args.ground c.in_ok-tree.tree c.loop-count.tree c.next.new.self c.loop-count._count
      c.loop-count.leaves.items c.loop-count.invariant.0 c.in-Some.leaf
      (subst (Gives c.args.ground c.loop-count.tree c.next.new.self) c.in-Some.is c.in_ok-leaf.ensures.leaf)),
  c.next.ensures.over.0 ∙ c.loop-count.invariant.1,
  λ each is. c.next.ensures.over.1 each (c.loop-count.invariant.2 each is),
)

pub returns-clause-leaves : goal.returns-clause-leaves
returns-clause-leaves g c =
    many_passed c.args.ground c.in_ok-tree.tree c.loop-count.tree c.loop-count.tree c.loop-count._count
    c.loop-count.leaves.items c.loop-count.invariant.0 c.args.tied c.args.limit c.in_ok-tree.ensures
    (omega (arith, c.loop-count-test.false, c.loop-count.auto))
