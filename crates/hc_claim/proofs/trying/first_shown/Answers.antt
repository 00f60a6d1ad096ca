use Rattle.std.proofs.Common.{◌≡◌, ◌∙◌, ◌+◌, [], None, Some, ap, arith, drop, refl, subst, sym}
use Rattle.std.proofs.lemmas.List.{drop_all}
use Rattle.std.specs.List.{list_all}
use Rattle.hc_candidates.specs.Candidates.{AreCandidates}
use Rattle.hc_members.specs.Requests.{is_of_scope}
use Rattle.hc_claim.specs.Trying.{IsFirstIn, IsRunOf, asked_in, broken_of}
use Rattle.hc_claim.proofs.Members.{candidates_within}
use Rattle.hc_claim.proofs.Tried.{few_candidates, leaf_over, leaf_shows, rest_from, spends_more, spends_within}
use Rattle.hc_claim.proofs.trying.first_shown.Goals as goal

pub loop-leaf-init : goal.loop-leaf-init
loop-leaf-init g c = (λ found is. is, (0, omega arith, omega arith), refl, λ each is. is)

pub returns-in_err-requests-clause-evals : goal.returns-in_err-requests-clause-evals
returns-in_err-requests-clause-evals g c =
    spends_within c.args.evals.now c.loop-leaf.evals c.loop-leaf.leaf-index _ c.loop-leaf.invariant.1
    (omega (arith, c.loop-leaf-test.true))

pub returns-in_err-first-clause-evals : goal.returns-in_err-first-clause-evals
returns-in_err-first-clause-evals g c =
    let asked = asked_in c.args.question in
    let headers = c.args.headers.now in
    let at = c.loop-leaf.leaf-index in
    let sets = c.leaf-item.result.tied.cell in
    let own = c.as_slice.result.now in
    let old = c.args.evals.now in
    let new = c.first_of.new.evals in
    let test = c.loop-leaf-test.true in
    let are = subst (AreCandidates asked.scope headers sets) (sym c.as_slice.ensures.value) c.in_ok-requests.ensures in
    spends_within old new (at + 1) _
    (spends_more old c.loop-leaf.evals new at own c.loop-leaf.invariant.1 c.first_of.ensures.evals
    (few_candidates asked.scope headers sets own are)) (omega (arith, test))

pub returns-in_err-requests-clause-over : goal.returns-in_err-requests-clause-over
returns-in_err-requests-clause-over g c = (c.loop-leaf.invariant.2, c.loop-leaf.invariant.3)

pub first_of-requires-clause-scope : goal.first_of-requires-clause-scope
first_of-requires-clause-scope g c =
    let scope = c.args.question.scope.now in
    ap (list_all (is_of_scope scope)) c.as_slice.ensures.value
    ∙ candidates_within scope c.args.headers.now c.leaf-item.result.tied.cell c.in_ok-requests.requests.items
    c.in_ok-requests.ensures

pub first_of-requires-clause-over : goal.first_of-requires-clause-over
first_of-requires-clause-over g c =
    let inv = c.loop-leaf.invariant in
    (ap g.O.Overrides.reading inv.2 ∙ c.requires.over.0, ap g.O.Overrides.size inv.2 ∙ c.requires.over.1)

pub returns-in_err-first-clause-over : goal.returns-in_err-first-clause-over
returns-in_err-first-clause-over g c =
    let inv = c.loop-leaf.invariant in
    (c.first_of.ensures.over.0 ∙ inv.2, λ each is. c.first_of.ensures.over.1 each (inv.3 each is))

pub returns-in-Some-clause-shown : goal.returns-in-Some-clause-shown
returns-in-Some-clause-shown g c =
    let asked = asked_in c.args.question in
    let headers = c.args.headers.now in
    let bad = c.args.bad.now in
    let at = c.loop-leaf.leaf-index in
    let leaf = c.leaf-item.result in
    let own = c.as_slice.result.now in
    let request = c.in-Some.shown.request in
    let next = rest_from bad at leaf c.loop-leaf-test.true c.leaf-item.is in
    let are = subst (AreCandidates asked.scope headers (leaf.tied).cell) (sym c.as_slice.ensures.value) c.in_ok-requests.ensures in
    let run = subst (IsRunOf asked (broken_of asked own)) c.in-Some.is c.in_ok-first.ensures.shown in (
      Some request,
      c.loop-leaf.invariant.0 (Some request) (subst (λ leaves. IsFirstIn asked headers leaves (Some request))
          (sym next) (leaf_shows asked headers leaf (drop (at + 1) bad) own request are run.0)),
      (refl, run.1),
    )

pub returns-in-Some-clause-evals : goal.returns-in-Some-clause-evals
returns-in-Some-clause-evals g c =
    let asked = asked_in c.args.question in
    let headers = c.args.headers.now in
    let at = c.loop-leaf.leaf-index in
    let sets = c.leaf-item.result.tied.cell in
    let own = c.as_slice.result.now in
    let old = c.args.evals.now in
    let new = c.first_of.new.evals in
    let test = c.loop-leaf-test.true in
    let are = subst (AreCandidates asked.scope headers sets) (sym c.as_slice.ensures.value) c.in_ok-requests.ensures in
    spends_within old new (at + 1) _
    (spends_more old c.loop-leaf.evals new at own c.loop-leaf.invariant.1 c.first_of.ensures.evals
    (few_candidates asked.scope headers sets own are)) (omega (arith, test))

pub returns-in-Some-clause-over : goal.returns-in-Some-clause-over
returns-in-Some-clause-over g c =
    let inv = c.loop-leaf.invariant in
    (c.first_of.ensures.over.0 ∙ inv.2, λ each is. c.first_of.ensures.over.1 each (inv.3 each is))

pub loop-leaf-preserved : goal.loop-leaf-preserved
loop-leaf-preserved g c =
    let inv = c.loop-leaf.invariant in
    let asked = asked_in c.args.question in
    let headers = c.args.headers.now in
    let bad = c.args.bad.now in
    let at = c.loop-leaf.leaf-index in
    let leaf = c.leaf-item.result in
    let own = c.as_slice.result.now in
    let next = rest_from bad at leaf c.loop-leaf-test.true c.leaf-item.is in
    let are = subst (AreCandidates asked.scope headers (leaf.tied).cell) (sym c.as_slice.ensures.value) c.in_ok-requests.ensures in
    let none = subst (IsRunOf asked (broken_of asked own)) c.in_default.is c.in_ok-first.ensures.shown in (
      λ found later. inv.0 found (subst (λ leaves. IsFirstIn asked headers leaves found) (sym next)
          (leaf_over asked headers leaf (drop (at + 1) bad) own found are none later)),
      spends_more c.args.evals.now c.loop-leaf.evals c.first_of.new.evals at own inv.1 c.first_of.ensures.evals
          (few_candidates asked.scope headers (leaf.tied).cell own are),
      c.first_of.ensures.over.0 ∙ inv.2,
      λ each is. c.first_of.ensures.over.1 each (inv.3 each is),
    )

pub returns-clause-shown : goal.returns-clause-shown
returns-clause-shown g c =
    let bad = c.args.bad.now in
    let none : drop c.loop-leaf.leaf-index bad ≡ [] = grind (arith, drop_all) in (
      None,
      c.loop-leaf.invariant.0 None
          (subst (λ leaves. IsFirstIn (asked_in c.args.question) c.args.headers.now leaves None) (sym none) refl),
      refl,
    )

pub returns-clause-evals : goal.returns-clause-evals
returns-clause-evals g c =
    spends_within c.args.evals.now c.loop-leaf.evals c.loop-leaf.leaf-index _ c.loop-leaf.invariant.1
    c.loop-leaf.auto.leaf-index-end

pub returns-clause-over : goal.returns-clause-over
returns-clause-over g c = (c.loop-leaf.invariant.2, c.loop-leaf.invariant.3)
