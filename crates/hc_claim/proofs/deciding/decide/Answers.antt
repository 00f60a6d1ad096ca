use Rattle.hc_claim.proofs.Common.{◌∙◌, ap, refl, subst, arith}
use Rattle.std.proofs.Common.{length, Global, IfOk, Vec}
use Rattle.std.proofs.lemmas.Result.{IfOk-weaker}
use Rattle.std.specs.Prelude.{option_map}
use Rattle.hc_vhost.specs.Choice.{chosen}
use Rattle.hc_abs_leaves.specs.declared.leaf.Leaf.{Leaf}
use Rattle.hc_claim.proofs.Answered.{answer_holds, answers, may_run, named_as, none_run, too_many}
use Rattle.hc_claim.specs.Deciding.{Answers}
use Rattle.hc_claim.specs.Trying.{IsAnsweredIn, Spends, asked_in}
use Rattle.hc_claim.specs.Walking.{IsWalkedFor}
use Rattle.hc_claim.proofs.deciding.decide.Goals as goal

pub walked-requires-clause-host : goal.walked-requires-clause-host
walked-requires-clause-host g c =
    let question = c.args.question in
    c.choose-host.ensures.value
    ∙ ap (chosen question.config.now question.scope.now.server question.scope.now.port) c.as_bytes.ensures

pub returns-in-None-clause-decided : goal.returns-in-None-clause-decided
returns-in-None-clause-decided g c =
    let question = c.args.question in
    let asked = asked_in question in
    let names = c.in_ok-names.names in
    let named = named_as asked names _ c.choose-host.result c.requires.over.0
    (c.choose-host.ensures.value
    ∙ ap (chosen question.config.now question.scope.now.server question.scope.now.port) c.as_bytes.ensures)
    c.in_ok-names.ensures.names in (
      0,
      omega arith,
      too_many asked names named c.args.limit
          (subst (λ found. IsWalkedFor asked names c.args.limit
          (option_map (λ (bad : Vec Leaf Global). bad.items) found)) c.in-None.is c.in_ok-walked.ensures.found),
    )

pub returns-clause-decided : goal.returns-clause-decided
returns-clause-decided g c =
    let question = c.args.question in
    let asked = asked_in question in
    let names = c.in_ok-names.names in
    let bad = c.in-Some.bad.items in
    let named = named_as asked names _ c.choose-host.result c.requires.over.0
    (c.choose-host.ensures.value
    ∙ ap (chosen question.config.now question.scope.now.server question.scope.now.port) c.as_bytes.ensures)
    c.in_ok-names.ensures.names in
    answers asked names c.args.limit c.args.evals.now c.answered.new.evals bad c.answered.result named
    (subst (λ found. IsWalkedFor asked names c.args.limit (option_map (λ (bad : Vec Leaf Global). bad.items) found))
    c.in-Some.is c.in_ok-walked.ensures.found)
    (subst (λ headers. IfOk c.answered.result (IsAnsweredIn asked headers bad)) c.as_slice-headers.ensures
    (subst (λ bad. IfOk c.answered.result (IsAnsweredIn asked c.as_slice-headers.result.now bad)) c.as_slice.ensures.value
    c.answered.ensures.answer))
    (subst (λ bad. Spends c.args.evals.now c.answered.new.evals (length bad))
    c.as_slice.ensures.value c.answered.ensures.evals)

pub returns-clause-evals : goal.returns-clause-evals
returns-clause-evals g c =
    let question = c.args.question in
    let asked = asked_in question in
    let names = c.in_ok-names.names in
    let bad = c.in-Some.bad.items in
    let named = named_as asked names _ c.choose-host.result c.requires.over.0
    (c.choose-host.ensures.value
    ∙ ap (chosen question.config.now question.scope.now.server question.scope.now.port) c.as_bytes.ensures)
    c.in_ok-names.ensures.names in
    may_run asked names c.args.limit c.args.evals.now c.answered.new.evals bad named
    (subst (λ found. IsWalkedFor asked names c.args.limit (option_map (λ (bad : Vec Leaf Global). bad.items) found))
    c.in-Some.is c.in_ok-walked.ensures.found)
    (subst (λ bad. Spends c.args.evals.now c.answered.new.evals (length bad))
    c.as_slice.ensures.value c.answered.ensures.evals)

pub returns-in-None-clause-evals : goal.returns-in-None-clause-evals
returns-in-None-clause-evals g c = none_run (asked_in c.args.question) c.args.evals.now c.args.evals.now refl

pub returns-clause-holds : goal.returns-clause-holds
returns-clause-holds g c =
    let asked = asked_in c.args.question in
    IfOk-weaker c.answered.result (Answers asked c.args.limit c.args.evals.now c.answered.new.evals) _
    (λ decided. answer_holds asked c.args.limit c.args.evals.now c.answered.new.evals decided c.requires.absolute
    c.in_ok-names.ensures.valid) (returns-clause-decided g c)

pub returns-clause-over : goal.returns-clause-over
returns-clause-over g c = (
  c.answered.ensures.over.0 ∙ c.walked.ensures.over.0 ∙ c.names_in.ensures.fixed,
  λ each is. c.answered.ensures.over.1 each (c.walked.ensures.over.1 each (c.names_in.ensures.kept each is)),
)
