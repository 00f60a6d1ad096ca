use Rattle.hc_abs_restart.proofs.Common.{false, subst}
use Rattle.hc_abs_restart.proofs.Answering.{answer_given, answer_lacks}
use Rattle.hc_abs_restart.proofs.Following.{others_fit}
use Rattle.hc_abs_restart.specs.Choosing.{IsAnswer, MaySay}
use Rattle.hc_abs_restart.specs.Following.{placed_plan}
use Rattle.hc_abs_restart.proofs.restart.begun_again.Goals as goal

pub returns-then-not-may_differ : goal.returns-then-not-may_differ
returns-then-not-may_differ c =
    answer_lacks c.args.tied false (placed_plan c.args.restart) c.new.result.items
    (subst (IsAnswer (MaySay c.args.tied false)) c.if-not-may_differ.true c.may_differ.ensures) c.new.ensures.items

pub returns : goal.returns
returns c =
    answer_given c.args.tied false (placed_plan c.args.restart) c.in_ok-found.found.items
    (subst (IsAnswer (MaySay c.args.tied false)) c.if-not-may_differ.false c.may_differ.ensures)
    (others_fit c.args.restart c.args.tied c.in_ok-named.named c.in_ok-mapped.mapped.items c.in_ok-found.found.items
    c.in_ok-named.ensures c.in_ok-mapped.ensures.branches c.in_ok-found.ensures)
