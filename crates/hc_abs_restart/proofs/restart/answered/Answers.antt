use Rattle.hc_abs_restart.proofs.Common.{done, subst, true}
use Rattle.hc_abs_pass.specs.Ends.{found as is_found}
use Rattle.hc_abs_restart.proofs.Answering.{answer_given, answer_lacks, found_fits}
use Rattle.hc_abs_restart.specs.Choosing.{IsAnswer, MaySay}
use Rattle.hc_abs_restart.proofs.restart.answered.Goals as goal

pub returns-then-not-branch : goal.returns-then-not-branch
returns-then-not-branch c =
    let tied = c.args.tied.now in
    answer_lacks tied true (done (is_found c.args.kind)) c.new-found.result.items
    (subst (IsAnswer (MaySay tied true)) c.if-not-branch.true c.in_ok-may_be_same.ensures) c.new-found.ensures.items

pub returns : goal.returns
returns c =
    let tied = c.args.tied.now in
    answer_given tied true (done (is_found c.args.kind)) c.push.new.self.items
    (subst (IsAnswer (MaySay tied true)) c.if-not-branch.false c.in_ok-may_be_same.ensures)
    (found_fits tied c.in_ok-copy.copy c.args.kind c.new-found.result.items c.push.new.self.items c.in_ok-copy.ensures
    c.new-found.ensures.items c.in_ok-push.ensures.items)
