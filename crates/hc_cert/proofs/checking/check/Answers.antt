use Rattle.std.proofs.Common.{◌∙◌, None, Some, ap, subst}
use Rattle.hc_vhost.specs.Choice.{chosen}
use Rattle.hc_claim.proofs.Answered.{named_as}
use Rattle.hc_claim.specs.Trying.{asked_in}
use Rattle.hc_cert.proofs.Said.{verdict_is}
use Rattle.hc_cert.specs.Coded.{IsSaidFor, LeaveBytesIn}
use Rattle.hc_cert.proofs.checking.check.Goals as goal

pub said_at-requires-clause-host : goal.said_at-requires-clause-host
said_at-requires-clause-host g c =
    let question = c.args.question in
    c.choose-host.ensures.value
    ∙ ap (chosen question.config.now question.scope.now.server question.scope.now.port) c.as_bytes.ensures

pub returns-in-Some-clause-verdict : goal.returns-in-Some-clause-verdict
returns-in-Some-clause-verdict g c =
    let question = c.args.question in
    let asked = asked_in question in
    let cells = c.args.cells.now in
    let named = named_as asked c.in_ok-names.names _ c.choose-host.result c.requires.0
    (c.choose-host.ensures.value
    ∙ ap (chosen question.config.now question.scope.now.server question.scope.now.port) c.as_bytes.ensures)
    c.in_ok-names.ensures.names in
    verdict_is asked cells c.in_ok-names.names (Some c.in-Some.said) named c.if-cells-gt-MOST_CELLS.false
    (subst (λ names. IsSaidFor asked names cells (Some c.in-Some.said)) c.in_ok-add_variables.ensures
    (subst (IsSaidFor asked c.add_variables.new.names cells) c.in-Some.is c.in_ok-said.ensures.said))
    (subst (λ names. LeaveBytesIn asked names cells) c.in_ok-add_variables.ensures c.in_ok-said.ensures.bytes)

pub returns-clause-verdict : goal.returns-clause-verdict
returns-clause-verdict g c =
    let question = c.args.question in
    let asked = asked_in question in
    let cells = c.args.cells.now in
    let named = named_as asked c.in_ok-names.names _ c.choose-host.result c.requires.0
    (c.choose-host.ensures.value
    ∙ ap (chosen question.config.now question.scope.now.server question.scope.now.port) c.as_bytes.ensures)
    c.in_ok-names.ensures.names in
    verdict_is asked cells c.in_ok-names.names None named c.if-cells-gt-MOST_CELLS.false
    (subst (λ names. IsSaidFor asked names cells None) c.in_ok-add_variables.ensures
    (subst (IsSaidFor asked c.add_variables.new.names cells) c.in-None.is c.in_ok-said.ensures.said))
    (subst (λ names. LeaveBytesIn asked names cells) c.in_ok-add_variables.ensures c.in_ok-said.ensures.bytes)
