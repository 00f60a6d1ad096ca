use Rattle.std.proofs.Common.{◌≡◌, ◌∙◌, ◌+◌, [], Some, ap, arith, drop, refl, subst, sym}
use Rattle.std.proofs.lemmas.List.{drop_all}
use Rattle.std.specs.List.{list_all}
use Rattle.hc_broken.specs.Breaking.{Shows}
use Rattle.hc_members.specs.Requests.{is_of_scope}
use Rattle.hc_plan.proofs.Common.{and_left, and_right}
use Rattle.hc_serve.specs.Request.{IsWholeRun}
use Rattle.hc_claim.specs.Trying.{asked_in, broken_of}
use Rattle.hc_claim.proofs.Tried.{found_here, passed_over, rest_from, slash_first}
use Rattle.hc_claim.proofs.trying.first_of.Goals as goal

pub loop-request-init : goal.loop-request-init
loop-request-init g c = (refl, c.requires.scope, (0, omega arith, omega arith), refl, λ each is. is)

pub replay-requires-clause-slash : goal.replay-requires-clause-slash
replay-requires-clause-slash g c =
    let inv = c.loop-request.invariant in
    let requests = c.args.requests.now in
    let at = c.loop-request.request-index in
    let item = c.request-item.result in
    let scope = c.args.question.scope.now in
    let next = rest_from requests at item c.loop-request-test.true c.request-item.is in
    slash_first scope item
    (and_left (is_of_scope scope item) _ (sym (ap (list_all (is_of_scope scope)) next) ∙ inv.1))

pub replay-requires-clause-over : goal.replay-requires-clause-over
replay-requires-clause-over g c =
    let inv = c.loop-request.invariant in
    (ap g.O.Overrides.reading inv.3 ∙ c.requires.over.0, ap g.O.Overrides.size inv.3 ∙ c.requires.over.1)

pub returns-in_err-run-clause-evals : goal.returns-in_err-run-clause-evals
returns-in_err-run-clause-evals g c =
    let tries = c.loop-request.invariant.2 in
    let test = c.loop-request-test.true in
    let more = c.replay.ensures.evals in
    (tries.0 + 1, omega (arith, tries.1, more), omega (arith, tries.2, test))

pub returns-in_err-request-clause-evals : goal.returns-in_err-request-clause-evals
returns-in_err-request-clause-evals g c =
    let tries = c.loop-request.invariant.2 in
    let test = c.loop-request-test.true in
    let more = c.replay.ensures.evals in
    (tries.0 + 1, omega (arith, tries.1, more), omega (arith, tries.2, test))

pub returns-in_err-run-clause-over : goal.returns-in_err-run-clause-over
returns-in_err-run-clause-over g c =
    let inv = c.loop-request.invariant in
    (c.replay.ensures.over.0 ∙ inv.3, λ each is. c.replay.ensures.over.1 each (inv.4 each is))

pub returns-in_err-request-clause-over : goal.returns-in_err-request-clause-over
returns-in_err-request-clause-over g c =
    let inv = c.loop-request.invariant in
    (c.replay.ensures.over.0 ∙ inv.3, λ each is. c.replay.ensures.over.1 each (inv.4 each is))

pub returns-in-Some-clause-shown : goal.returns-in-Some-clause-shown
returns-in-Some-clause-shown g c =
    let requests = c.args.requests.now in
    let at = c.loop-request.request-index in
    let item = c.request-item.result in
    let asked = asked_in c.args.question in
    let copied : c.in_ok-request.request ≡ item = c.in_ok-request.ensures.cases in
    let next = rest_from requests at item c.loop-request-test.true c.request-item.is in
    let shows = subst (Shows asked.world asked.config asked.claim item) c.in-Some.is c.in_ok-run.ensures.run in (
      sym c.loop-request.invariant.0 ∙ ap (broken_of asked) next ∙ found_here asked item (drop (at + 1) requests) shows.0
          ∙ ap Some (sym copied),
      subst (λ request. IsWholeRun asked.world asked.config request c.in-Some.run') (sym copied) shows.1,
    )

pub returns-in-Some-clause-evals : goal.returns-in-Some-clause-evals
returns-in-Some-clause-evals g c =
    let tries = c.loop-request.invariant.2 in
    let test = c.loop-request-test.true in
    let more = c.replay.ensures.evals in
    (tries.0 + 1, omega (arith, tries.1, more), omega (arith, tries.2, test))

pub returns-in-Some-clause-over : goal.returns-in-Some-clause-over
returns-in-Some-clause-over g c =
    let inv = c.loop-request.invariant in
    (c.replay.ensures.over.0 ∙ inv.3, λ each is. c.replay.ensures.over.1 each (inv.4 each is))

pub loop-request-preserved : goal.loop-request-preserved
loop-request-preserved g c =
    let inv = c.loop-request.invariant in
    let requests = c.args.requests.now in
    let at = c.loop-request.request-index in
    let item = c.request-item.result in
    let scope = c.args.question.scope.now in
    let asked = asked_in c.args.question in
    let more = c.replay.ensures.evals in
    let next = rest_from requests at item c.loop-request-test.true c.request-item.is in
    let whole = subst (Shows asked.world asked.config asked.claim item) c.in_default.is c.in_ok-run.ensures.run in (
      sym (passed_over asked item (drop (at + 1) requests) whole) ∙ sym (ap (broken_of asked) next) ∙ inv.0,
      and_right (is_of_scope scope item) _ (sym (ap (list_all (is_of_scope scope)) next) ∙ inv.1),
      (inv.2.0 + 1, omega (arith, inv.2.1, more), omega (arith, inv.2.2)),
      c.replay.ensures.over.0 ∙ inv.3,
      λ each is. c.replay.ensures.over.1 each (inv.4 each is),
    )

pub returns-clause-shown : goal.returns-clause-shown
returns-clause-shown g c =
    let requests = c.args.requests.now in
    let none : drop c.loop-request.request-index requests ≡ [] = grind (arith, drop_all) in
    sym c.loop-request.invariant.0 ∙ ap (broken_of (asked_in c.args.question)) none

pub returns-clause-evals : goal.returns-clause-evals
returns-clause-evals g c =
    let tries = c.loop-request.invariant.2 in
    let end = c.loop-request.auto.request-index-end in
    (tries.0, tries.1, omega (arith, tries.2, end))

pub returns-clause-over : goal.returns-clause-over
returns-clause-over g c = (c.loop-request.invariant.3, c.loop-request.invariant.4)
