use Rattle.std.proofs.Common.{◌∙◌, Global, IfOk, Vec, ap, arith, length, refl, subst}
use Rattle.std.proofs.lemmas.Result.{IfOk-weaker}
use Rattle.std.specs.Prelude.{option_map}
use Rattle.hc_vhost.specs.Choice.{chosen}
use Rattle.hc_abs_pass.proofs.Listable.{all_listed}
use Rattle.hc_claim.proofs.Answered.{named_as}
use Rattle.hc_ends.specs.Asking.{asked_at}
use Rattle.hc_ends.specs.Deciding.{Answers}
use Rattle.hc_ends.specs.Finding.{AreBadEnds}
use Rattle.hc_ends.specs.Lending.{site_of}
use Rattle.hc_ends.specs.Trying.{IsAnsweredIn, Spends}
use Rattle.hc_ends.specs.declared.finding.BadEnd.{BadEnd}
use Rattle.hc_ends.proofs.Answering.{answers_hold}
use Rattle.hc_ends.proofs.Closing.{known_decided, many_decided, may_run}
use Rattle.hc_ends.proofs.deciding.decide_ends.Goals as goal

pub returns-in_default-clause-decided : goal.returns-in_default-clause-decided
returns-in_default-clause-decided g c =
    let site = site_of c.args.chains in
    let scope = c.args.scope.now in (
      0,
      omega arith,
      many_decided site scope c.args.limit
          (subst (λ found. AreBadEnds site scope c.args.limit (option_map (λ (bad : Vec BadEnd Global). bad.items)
          found))
          c.in_default.is c.in_ok-bad.ensures.bad),
    )

pub returns-clause-decided : goal.returns-clause-decided
returns-clause-decided g c =
    let site = site_of c.args.chains in
    let scope = c.args.scope.now in
    let names = c.in_ok-names.names in
    let bad = c.in-Some.bad.items in
    let host = c.choose-host.ensures.value
    ∙ ap (chosen c.args.chains.config.now scope.server scope.port) c.as_bytes.ensures in
    let named = named_as (asked_at site scope) names _ c.choose-host.result
    (ap g.O.Overrides.reading c.in_ok-bad.ensures.over.0 ∙ c.requires.over.0) host c.in_ok-names.ensures.names in
    IfOk-weaker c.answered.result (IsAnsweredIn site scope names.headers bad) _
    (known_decided site scope c.args.limit bad
    (subst (λ found. AreBadEnds site scope c.args.limit (option_map (λ (bad : Vec BadEnd Global). bad.items) found))
    c.in-Some.is c.in_ok-bad.ensures.bad) c.args.evals.now c.answered.new.evals
    (subst (λ bad. Spends c.args.evals.now c.answered.new.evals (length bad)) c.as_slice.ensures.value
    c.answered.ensures.evals) names named)
    (subst (λ headers. IfOk c.answered.result (IsAnsweredIn site scope headers bad)) c.as_slice-headers.ensures
    (subst (λ bad. IfOk c.answered.result (IsAnsweredIn site scope c.as_slice-headers.result.now bad))
    c.as_slice.ensures.value c.answered.ensures.answer))

pub returns-clause-holds : goal.returns-clause-holds
returns-clause-holds g c =
    let site = site_of c.args.chains in
    let scope = c.args.scope.now in
    let listed = all_listed site.world c.in_ok-names.ensures.valid in
    IfOk-weaker c.answered.result (Answers site scope c.args.limit c.args.evals.now c.answered.new.evals) _
    (λ decided is. answers_hold site scope c.args.limit 4098 is.0 decided c.requires.absolute c.requires.hosts listed
    (is.2 4098 listed)) (returns-clause-decided g c)

pub returns-clause-evals : goal.returns-clause-evals
returns-clause-evals g c =
    let site = site_of c.args.chains in
    let scope = c.args.scope.now in
    let bad = c.in-Some.bad.items in
    may_run site scope c.args.limit bad
    (subst (λ found. AreBadEnds site scope c.args.limit (option_map (λ (bad : Vec BadEnd Global). bad.items) found))
    c.in-Some.is c.in_ok-bad.ensures.bad) c.args.evals.now c.answered.new.evals
    (subst (λ bad. Spends c.args.evals.now c.answered.new.evals (length bad)) c.as_slice.ensures.value
    c.answered.ensures.evals)

pub returns-clause-over : goal.returns-clause-over
returns-clause-over g c = (
  c.answered.ensures.over.0 ∙ c.in_ok-names.ensures.fixed ∙ c.in_ok-bad.ensures.over.0,
  λ each is. c.answered.ensures.over.1 each (c.in_ok-names.ensures.kept each (c.in_ok-bad.ensures.over.1 each is)),
)
