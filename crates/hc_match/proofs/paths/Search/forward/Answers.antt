use Rattle.hc_match.proofs.Common.{IsPair, Passed}
use Rattle.hc_match.specs.declared.moves.Move.TheVariants.{Done, Fail, Next}
use Rattle.hc_match.proofs.PairSearch.{moved, reached_push}
use Rattle.hc_match.proofs.paths.Search.forward.Goals as goal

pub returns-in-Done : goal.returns-in-Done
returns-in-Done c meaning start from means is =
    let search = c.args.self.now in (
      is,
      λ kept. moved c.args.steps.now meaning c.next_move.result search.step search.at kept Done
          (c.next_move.ensures meaning kept (means search.step)) c.in-Done.is,
    )

pub returns-in-Fail : goal.returns-in-Fail
returns-in-Fail c meaning start from means is =
    let search = c.args.self.now in (
      is,
      λ kept. moved c.args.steps.now meaning c.next_move.result search.step search.at kept Fail
          (c.next_move.ensures meaning kept (means search.step)) c.in-Fail.is,
    )

pub returns-in_ok-push-in-Next : goal.returns-in_ok-push-in-Next
returns-in_ok-push-in-Next c meaning start from means is =
    let search = c.args.self.now in
    let one : Passed = record { step = search.step; at = search.at; other = c.in-Next.other } in
    record {
      failures = is.failures;
      reached = rw c.in_ok-push-in-Next.ensures.items
          (reached_push c.args.steps.now meaning (IsPair start from) search.passed.items one c.in-Next.step c.in-Next.at
          is.reached
          (λ kept. moved c.args.steps.now meaning c.next_move.result search.step search.at kept
          (Next c.in-Next.step c.in-Next.at c.in-Next.other) (c.next_move.ensures meaning kept (means search.step))
          c.in-Next.is));
    }
