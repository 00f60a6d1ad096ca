use Rattle.std.proofs.Common.{ap, subst}
use Rattle.std.proofs.lemmas.Result.{IfOk-weaker}
use Rattle.hc_cert.proofs.Said.{ranks_said}
use Rattle.hc_cert.specs.Coded.{IsFirstOf}
use Rattle.hc_cert.specs.Conditions.{asks_ranks}
use Rattle.hc_cert.specs.declared.verdict.Condition.TheVariants as condition
use Rattle.hc_cert.proofs.checking.by_branches.Goals as goal

pub returns-in-Stops : goal.returns-in-Stops
returns-in-Stops c =
    let scene = c.args.scene in
    let walked = c.args.walked.now in
    let arrivals = subst (IsFirstOf scene condition.Arrivals walked) c.in_default.is c.in_ok-said.ensures in
    let ends = subst (IsFirstOf scene condition.Ends walked) c.in_default-2.is c.in_ok-said-2.ensures in
    IfOk-weaker c.first_of-in-Stops.result (IsFirstOf scene condition.Ranks walked) _
    (λ said first. ranks_said scene walked arrivals ends (ap asks_ranks c.in-Stops.is) said first)
    c.first_of-in-Stops.ensures
