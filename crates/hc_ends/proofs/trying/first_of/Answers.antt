use Rattle.std.proofs.Common.{◌≡◌, ◌∙◌, ◌+◌, [], Some, ap, arith, drop, refl, subst, sym}
use Rattle.std.proofs.lemmas.List.{drop_all}
use Rattle.std.specs.List.{find, list_all}
use Rattle.hc_follow.specs.Chains.{IsChain}
use Rattle.hc_members.specs.Requests.{is_of_scope}
use Rattle.hc_plan.proofs.Common.{and_left, and_right}
use Rattle.hc_claim.proofs.Tried.{rest_from, slash_first}
use Rattle.hc_ends.specs.Breaking.{is_broken}
use Rattle.hc_ends.specs.Lending.{site_of}
use Rattle.hc_ends.proofs.Stopping.{chain_breaks}
use Rattle.hc_ends.proofs.Tried.{found_here, passed_over, tries_more, tries_within}
use Rattle.hc_ends.proofs.trying.first_of.Goals as goal

pub loop-request-init : goal.loop-request-init
loop-request-init g c = (refl, c.requires.scope, (0, omega arith, omega arith), refl, λ each is. is)

pub follow-requires-clause-slash : goal.follow-requires-clause-slash
follow-requires-clause-slash g c =
    let inv = c.loop-request.invariant in
    let requests = c.args.requests.now in
    let at = c.loop-request.request-index in
    let item = c.request-item.result in
    let scope = c.args.scope.now in
    let next = rest_from requests at item c.loop-request-test.true c.request-item.is in
    slash_first scope item
    (and_left (is_of_scope scope item) _ (sym (ap (list_all (is_of_scope scope)) next) ∙ inv.1))

pub follow-requires-clause-over : goal.follow-requires-clause-over
follow-requires-clause-over g c =
    let inv = c.loop-request.invariant in
    (ap g.O.Overrides.reading inv.3 ∙ c.requires.over.0, ap g.O.Overrides.size inv.3 ∙ c.requires.over.1)

pub returns-in_err-chain-clause-evals : goal.returns-in_err-chain-clause-evals
returns-in_err-chain-clause-evals g c =
    let more = c.follow.ensures in
    tries_within _ _ _ _ (tries_more _ _ _ _ c.loop-request.invariant.2 more.grows more.most)
    (omega (arith, c.loop-request-test.true))

pub returns-in_err-chain-clause-over : goal.returns-in_err-chain-clause-over
returns-in_err-chain-clause-over g c =
    let inv = c.loop-request.invariant in
    (c.follow.ensures.over.0 ∙ inv.3, λ each is. c.follow.ensures.over.1 each (inv.4 each is))

pub returns-in_err-request-clause-evals : goal.returns-in_err-request-clause-evals
returns-in_err-request-clause-evals g c =
    let more = c.follow.ensures in
    tries_within _ _ _ _ (tries_more _ _ _ _ c.loop-request.invariant.2 more.grows more.most)
    (omega (arith, c.loop-request-test.true))

pub returns-in_err-request-clause-over : goal.returns-in_err-request-clause-over
returns-in_err-request-clause-over g c =
    let inv = c.loop-request.invariant in
    (c.follow.ensures.over.0 ∙ inv.3, λ each is. c.follow.ensures.over.1 each (inv.4 each is))

pub returns-then-breaks-clause-shown : goal.returns-then-breaks-clause-shown
returns-then-breaks-clause-shown g c =
    let site = site_of c.args.chains in
    let requests = c.args.requests.now in
    let at = c.loop-request.request-index in
    let item = c.request-item.result in
    let chain = c.in_ok-chain.chain in
    let copied : c.in_ok-request.request ≡ item = c.in_ok-request.ensures.cases in
    let next = rest_from requests at item c.loop-request-test.true c.request-item.is in
    let breaks = chain_breaks site item chain c.in_ok-chain.ensures.chain ∙ sym c.breaks.ensures ∙ c.if-breaks.true in (
      sym c.loop-request.invariant.0 ∙ ap (find (is_broken site)) next
          ∙ found_here site item (drop (at + 1) requests) breaks ∙ ap Some (sym copied),
      subst (λ request. IsChain site.world site.config site.hosts request chain) (sym copied)
          c.in_ok-chain.ensures.chain,
    )

pub returns-then-breaks-clause-evals : goal.returns-then-breaks-clause-evals
returns-then-breaks-clause-evals g c =
    let more = c.follow.ensures in
    tries_within _ _ _ _ (tries_more _ _ _ _ c.loop-request.invariant.2 more.grows more.most)
    (omega (arith, c.loop-request-test.true))

pub returns-then-breaks-clause-over : goal.returns-then-breaks-clause-over
returns-then-breaks-clause-over g c =
    let inv = c.loop-request.invariant in
    (c.follow.ensures.over.0 ∙ inv.3, λ each is. c.follow.ensures.over.1 each (inv.4 each is))

pub loop-request-preserved : goal.loop-request-preserved
loop-request-preserved g c =
    let inv = c.loop-request.invariant in
    let site = site_of c.args.chains in
    let requests = c.args.requests.now in
    let at = c.loop-request.request-index in
    let item = c.request-item.result in
    let scope = c.args.scope.now in
    let next = rest_from requests at item c.loop-request-test.true c.request-item.is in
    let fine = chain_breaks site item c.in_ok-chain.chain c.in_ok-chain.ensures.chain ∙ sym c.breaks.ensures ∙
    c.if-breaks.false in (
      sym (passed_over site item (drop (at + 1) requests) fine) ∙ sym (ap (find (is_broken site)) next) ∙ inv.0,
      and_right (is_of_scope scope item) _ (sym (ap (list_all (is_of_scope scope)) next) ∙ inv.1),
      tries_more _ _ _ _ inv.2 c.follow.ensures.grows c.follow.ensures.most,
      c.follow.ensures.over.0 ∙ inv.3,
      λ each is. c.follow.ensures.over.1 each (inv.4 each is),
    )

pub returns-clause-shown : goal.returns-clause-shown
returns-clause-shown g c =
    let requests = c.args.requests.now in
    let none : drop c.loop-request.request-index requests ≡ [] = grind (arith, drop_all) in
    sym c.loop-request.invariant.0 ∙ ap (find (is_broken (site_of c.args.chains))) none

pub returns-clause-evals : goal.returns-clause-evals
returns-clause-evals g c =
    tries_within _ _ _ _ c.loop-request.invariant.2 c.loop-request.auto.request-index-end

pub returns-clause-over : goal.returns-clause-over
returns-clause-over g c = (c.loop-request.invariant.3, c.loop-request.invariant.4)
