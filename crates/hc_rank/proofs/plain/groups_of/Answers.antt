use Rattle.std.proofs.Common.{drop, subst, sym, arith}
use Rattle.hc_rank.specs.Sets.{AreGroups}
use Rattle.hc_rank.proofs.Groups.{drop_from}
use Rattle.hc_rank.proofs.plain.groups_of.Goals as goal

pub loop-left-preserved : goal.loop-left-preserved
loop-left-preserved c = record {
  within = omega (arith, c.loop-left.invariant.within);
  groups = subst (AreGroups c.with_piece-groups.result)
      (sym (drop_from c.args.template.now c.loop-left.left c.index-template-left.result
      c.loop-left-test.true c.loop-left.invariant.within c.index-template-left.is))
      (c.with_piece-groups.ensures (drop c.loop-left.left c.args.template.now) c.loop-left.invariant.groups);
}
