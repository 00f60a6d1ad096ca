use Rattle.hc_match.proofs.Common.{None, IsPair, Passed}
use Rattle.hc_match.proofs.PairSearch.{failed_more, fails_back, leads_other, reached_pop, reached_push}
use Rattle.hc_match.proofs.paths.Search.back.Goals as goal

pub returns-in-None : goal.returns-in-None
returns-in-None c steps meaning start from stands =
    let search = c.args.self.now in
    let one = c.in-Some.passed in
    let came = reached_pop steps meaning (IsPair start from) c.pop.new.self.items one search.step search.at
    (rw (← c.in-Some.ensures.items) stands.0.reached) in
    let fails = fails_back steps meaning one search.step search.at came.1 stands.1 c.in-None.is in (
      record {
        failures = failed_more steps meaning search.failures c.add.new.self one.step one.at stands.0.failures
            fails c.add.ensures;
        reached = came.0;
      },
      fails,
    )

pub returns-in_ok-push-in-Some-other : goal.returns-in_ok-push-in-Some-other
returns-in_ok-push-in-Some-other c steps meaning start from stands =
    let search = c.args.self.now in
    let one = c.in-Some.passed in
    let came = reached_pop steps meaning (IsPair start from) c.pop.new.self.items one search.step search.at
    (rw (← c.in-Some.ensures.items) stands.0.reached) in
    let again : Passed = record { step = one.step; at = one.at; other = None } in
    record {
      failures = stands.0.failures;
      reached = rw c.in_ok-push-in-Some-other.ensures.items
          (reached_push steps meaning (IsPair start from) c.pop.new.self.items again c.in-Some-other.other one.at came.0
          (leads_other steps meaning one search.step search.at c.in-Some-other.other came.1 stands.1
          c.in-Some-other.is));
    }
