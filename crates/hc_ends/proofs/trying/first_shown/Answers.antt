use Rattle.std.proofs.Common.{◌≡◌, ◌∙◌, ◌+◌, [], None, Some, ap, arith, drop, refl, subst, sym}
use Rattle.std.proofs.lemmas.List.{drop_all}
use Rattle.std.specs.List.{find, list_all}
use Rattle.hc_candidates.specs.Candidates.{AreCandidates}
use Rattle.hc_members.specs.Requests.{is_of_scope}
use Rattle.hc_claim.proofs.Members.{candidates_within}
use Rattle.hc_claim.proofs.Tried.{few_candidates, rest_from}
use Rattle.hc_ends.specs.Breaking.{is_broken}
use Rattle.hc_ends.specs.Lending.{site_of}
use Rattle.hc_ends.specs.Trying.{IsChainOf, IsFirstIn}
use Rattle.hc_ends.proofs.Tried.{end_over, end_shows, spends_more, spends_within}
use Rattle.hc_ends.proofs.trying.first_shown.Goals as goal

pub loop-end-init : goal.loop-end-init
loop-end-init g c = (λ found is. is, (0, omega arith, omega arith), refl, λ each is. is)

pub returns-in_err-requests-clause-evals : goal.returns-in_err-requests-clause-evals
returns-in_err-requests-clause-evals g c =
    spends_within c.args.evals.now c.loop-end.evals c.loop-end.end-index _ c.loop-end.invariant.1
    (omega (arith, c.loop-end-test.true))

pub returns-in_err-first-clause-evals : goal.returns-in_err-first-clause-evals
returns-in_err-first-clause-evals g c =
    let site = site_of c.args.chains in
    let scope = c.args.scope.now in
    let headers = c.args.headers.now in
    let at = c.loop-end.end-index in
    let sets = c.end-item.result.first in
    let own = c.as_slice.result.now in
    let old = c.args.evals.now in
    let new = c.first_of.new.evals in
    let test = c.loop-end-test.true in
    let are = subst (AreCandidates scope headers sets) (sym c.as_slice.ensures.value) c.in_ok-requests.ensures in
    spends_within old new (at + 1) _
    (spends_more old c.loop-end.evals new at own c.loop-end.invariant.1 c.first_of.ensures.evals
    (few_candidates scope headers sets own are)) (omega (arith, test))

pub returns-in_err-requests-clause-over : goal.returns-in_err-requests-clause-over
returns-in_err-requests-clause-over g c = (c.loop-end.invariant.2, c.loop-end.invariant.3)

pub first_of-requires-clause-scope : goal.first_of-requires-clause-scope
first_of-requires-clause-scope g c =
    let scope = c.args.scope.now in
    ap (list_all (is_of_scope scope)) c.as_slice.ensures.value
    ∙ candidates_within scope c.args.headers.now c.end-item.result.first c.in_ok-requests.requests.items
    c.in_ok-requests.ensures

pub first_of-requires-clause-over : goal.first_of-requires-clause-over
first_of-requires-clause-over g c =
    let inv = c.loop-end.invariant in
    (ap g.O.Overrides.reading inv.2 ∙ c.requires.over.0, ap g.O.Overrides.size inv.2 ∙ c.requires.over.1)

pub returns-in_err-first-clause-over : goal.returns-in_err-first-clause-over
returns-in_err-first-clause-over g c =
    let inv = c.loop-end.invariant in
    (c.first_of.ensures.over.0 ∙ inv.2, λ each is. c.first_of.ensures.over.1 each (inv.3 each is))

pub returns-in-Some-clause-shown : goal.returns-in-Some-clause-shown
returns-in-Some-clause-shown g c =
    let site = site_of c.args.chains in
    let scope = c.args.scope.now in
    let headers = c.args.headers.now in
    let bad = c.args.bad.now in
    let at = c.loop-end.end-index in
    let end = c.end-item.result in
    let own = c.as_slice.result.now in
    let request = c.in-Some.shown.request in
    let next = rest_from bad at end c.loop-end-test.true c.end-item.is in
    let are = subst (AreCandidates scope headers end.first) (sym c.as_slice.ensures.value) c.in_ok-requests.ensures in
    let run = subst (IsChainOf site (find (is_broken site) own)) c.in-Some.is c.in_ok-first.ensures.shown in (
      Some request,
      c.loop-end.invariant.0 (Some request) (subst (λ leaves. IsFirstIn site scope headers leaves (Some request))
          (sym next) (end_shows site scope headers end (drop (at + 1) bad) own are request run.0)),
      (refl, run.1),
    )

pub returns-in-Some-clause-evals : goal.returns-in-Some-clause-evals
returns-in-Some-clause-evals g c =
    let site = site_of c.args.chains in
    let scope = c.args.scope.now in
    let headers = c.args.headers.now in
    let at = c.loop-end.end-index in
    let sets = c.end-item.result.first in
    let own = c.as_slice.result.now in
    let old = c.args.evals.now in
    let new = c.first_of.new.evals in
    let test = c.loop-end-test.true in
    let are = subst (AreCandidates scope headers sets) (sym c.as_slice.ensures.value) c.in_ok-requests.ensures in
    spends_within old new (at + 1) _
    (spends_more old c.loop-end.evals new at own c.loop-end.invariant.1 c.first_of.ensures.evals
    (few_candidates scope headers sets own are)) (omega (arith, test))

pub returns-in-Some-clause-over : goal.returns-in-Some-clause-over
returns-in-Some-clause-over g c =
    let inv = c.loop-end.invariant in
    (c.first_of.ensures.over.0 ∙ inv.2, λ each is. c.first_of.ensures.over.1 each (inv.3 each is))

pub loop-end-preserved : goal.loop-end-preserved
loop-end-preserved g c =
    let inv = c.loop-end.invariant in
    let site = site_of c.args.chains in
    let scope = c.args.scope.now in
    let headers = c.args.headers.now in
    let bad = c.args.bad.now in
    let at = c.loop-end.end-index in
    let end = c.end-item.result in
    let own = c.as_slice.result.now in
    let next = rest_from bad at end c.loop-end-test.true c.end-item.is in
    let are = subst (AreCandidates scope headers end.first) (sym c.as_slice.ensures.value) c.in_ok-requests.ensures in
    let none = subst (IsChainOf site (find (is_broken site) own)) c.in_default.is c.in_ok-first.ensures.shown in (
      λ found later. inv.0 found (subst (λ leaves. IsFirstIn site scope headers leaves found) (sym next)
          (end_over site scope headers end (drop (at + 1) bad) own are found none later)),
      spends_more c.args.evals.now c.loop-end.evals c.first_of.new.evals at own inv.1 c.first_of.ensures.evals
          (few_candidates scope headers end.first own are),
      c.first_of.ensures.over.0 ∙ inv.2,
      λ each is. c.first_of.ensures.over.1 each (inv.3 each is),
    )

pub returns-clause-shown : goal.returns-clause-shown
returns-clause-shown g c =
    let bad = c.args.bad.now in
    let none : drop c.loop-end.end-index bad ≡ [] = grind (arith, drop_all) in (
      None,
      c.loop-end.invariant.0 None
          (subst (λ leaves. IsFirstIn (site_of c.args.chains) c.args.scope.now c.args.headers.now leaves None) (sym
          none) refl),
      refl,
    )

pub returns-clause-evals : goal.returns-clause-evals
returns-clause-evals g c =
    spends_within c.args.evals.now c.loop-end.evals c.loop-end.end-index _ c.loop-end.invariant.1
    c.loop-end.auto.end-index-end

pub returns-clause-over : goal.returns-clause-over
returns-clause-over g c = (c.loop-end.invariant.2, c.loop-end.invariant.3)
