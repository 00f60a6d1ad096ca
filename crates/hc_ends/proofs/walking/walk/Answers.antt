use Rattle.std.proofs.Common.{◌∙◌, Global, Some, Vec, ap, subst}
use Rattle.std.specs.Prelude.{option_map}
use Rattle.hc_members.specs.Requests.{common_request}
use Rattle.hc_serve.specs.Site.{caller_at}
use Rattle.hc_vhost.specs.Choice.{chosen}
use Rattle.hc_abs_leaves.specs.declared.leaf.Leaf.{Leaf}
use Rattle.hc_claim.proofs.Answered.{named_as}
use Rattle.hc_ends.specs.Asking.{asked_at}
use Rattle.hc_ends.specs.Lending.{site_of}
use Rattle.hc_ends.specs.Walking.{IsGatheredFor}
use Rattle.hc_ends.proofs.Gathering.{has_all, has_many}
use Rattle.hc_ends.proofs.walking.walk.Goals as goal

pub leaves_at-requires-clause-host : goal.leaves_at-requires-clause-host
leaves_at-requires-clause-host g c =
    let scope = c.args.scope.now in
    c.choose-host.ensures.value ∙ ap (chosen c.args.chains.config.now scope.server scope.port) c.as_bytes.ensures

pub returns-in-None-clause-walked : goal.returns-in-None-clause-walked
returns-in-None-clause-walked g c =
    let site = site_of c.args.chains in
    let scope = c.args.scope.now in
    let asked = asked_at site scope in
    let names = c.in_ok-names.names in
    let tests = c.in_ok-tests.tests in
    let host = c.choose-host.ensures.value
    ∙ ap (chosen c.args.chains.config.now scope.server scope.port) c.as_bytes.ensures in
    let named = named_as asked names _ c.choose-host.result c.requires.over.0 host c.in_ok-names.ensures.names in
    has_many site scope names named c.args.limit tests
    (subst (λ found. IsGatheredFor asked names tests c.args.limit
    (option_map (λ (leaves : Vec Leaf Global). leaves.items) found)) c.in-None.is c.in_ok-leaves_at.ensures.found)

pub returns-clause-walked : goal.returns-clause-walked
returns-clause-walked g c =
    let site = site_of c.args.chains in
    let scope = c.args.scope.now in
    let asked = asked_at site scope in
    let names = c.in_ok-names.names in
    let tests = c.in_ok-tests.tests in
    let host = c.choose-host.ensures.value
    ∙ ap (chosen c.args.chains.config.now scope.server scope.port) c.as_bytes.ensures in
    let named = named_as asked names _ c.choose-host.result c.requires.over.0 host c.in_ok-names.ensures.names in
    let caller = c.in_ok-tests.ensures ∙ ap (λ host. caller_at c.args.chains.config.now host (common_request scope))
    host in (
      caller,
      has_all site scope names named c.args.limit c.in-Some.leaves.items
          (subst (λ tests. IsGatheredFor asked names tests c.args.limit (Some c.in-Some.leaves.items)) caller
          (subst (λ found. IsGatheredFor asked names tests c.args.limit
          (option_map (λ (leaves : Vec Leaf Global). leaves.items) found)) c.in-Some.is
          c.in_ok-leaves_at.ensures.found)),
    )
