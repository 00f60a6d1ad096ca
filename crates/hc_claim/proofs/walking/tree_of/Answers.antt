use Rattle.hc_claim.proofs.Common.{subst}
use Rattle.std.proofs.lemmas.Bool.{false≢true}
use Rattle.std.proofs.lemmas.Result.{IfOk-weaker}
use Rattle.std.specs.Bool.{IsTrue}
use Rattle.hc_abs_leaves.specs.Growing.{BeginsAt}
use Rattle.hc_claim.proofs.Walked.{filled_begins}
use Rattle.hc_claim.proofs.walking.tree_of.Goals as goal

pub returns : goal.returns
returns c =
    IfOk-weaker c.new-2.result (BeginsAt c.args.tied) _
    (λ tree. filled_begins c.args.tied tree
    (λ none. false≢true (subst IsTrue c.if-branch.false (c.in_ok-is_empty.ensures.1 none)))) c.new-2.ensures
