use Rattle.std.proofs.Common.{◌≡◌, ◌∙◌, ◌-◌, ◌∷◌, [], Err, Ok, Some, ap, arith, drop, refl, subst, sym, true}
use Rattle.std.proofs.lemmas.List.{drop_all}
use Rattle.hc_claim.proofs.Judged.{out_is}
use Rattle.std.specs.List.{list_any}
use Rattle.hc_sent.specs.Ways.{AreLedFrom, AreReachedFrom}
use Rattle.hc_ends.specs.Chains.{IsSent, caller_of, end_at, is_outward, is_own, nowhere, to}
use Rattle.hc_ends.specs.Finding.{AreFurther, Finds}
use Rattle.hc_ends.specs.Lending.{site_of}
use Rattle.hc_ends.specs.Sending.{sends_of}
use Rattle.hc_ends.specs.Walking.{IsWalked}
use Rattle.hc_ends.proofs.Chained.{AtOne, finds_on, finds_weaker, last_on, leaf_more, leaf_stops, leaves_over, led_more}
use Rattle.hc_ends.proofs.Chained.{led_nowhere, led_stops, leds_over, many_leaves, next_finds, no_leaves, no_leds}
use Rattle.hc_ends.proofs.Chained.{nowhere_on, sent_more, sent_stops, walked_leaves}
use Rattle.hc_ends.proofs.chaining.+chain.Goals as goal

-- ---- leaf by leaf

pub add_chains-returns-in_default-clause-found : goal.add_chains-returns-in_default-clause-found
add_chains-returns-in_default-clause-found g t c levels before listed fits =
    let stage = c.args.stage in
    let walked = subst (IsWalked (site_of stage.chains) stage.scope.now c.args.found.now.left) c.in_default.is
    c.in_ok-walked.ensures.walked in
    let many = walked levels listed in
    many_leaves stage levels before many.leaves many.some c.args.found.now many.many

pub add_chains-loop-leaf-init : goal.add_chains-loop-leaf-init
add_chains-loop-leaf-init g t c = (
  no_leaves c.args.stage (caller_of (site_of c.args.stage.chains) c.args.stage.scope.now)
      c.as_slice-leaf-items.result.now
      c.args.found.now,
  refl,
  λ each is. is,
)

pub add_chains-returns-in_err-add_leaf-clause-found : goal.add_chains-returns-in_err-add_leaf-clause-found
add_chains-returns-in_err-add_leaf-clause-found g t c levels before listed fits =
    let stage = c.args.stage in
    let site = site_of stage.chains in
    let caller = caller_of site stage.scope.now in
    let items = c.as_slice-leaf-items.result.now in
    let item = c.leaf-item.result in
    let halt = c.in_err-add_leaf.field-0.0 in
    let walked = subst (IsWalked site stage.scope.now c.args.found.now.left) c.in-Some.is c.in_ok-walked.ensures.walked
    in
    let found = subst (λ caller. AtOne stage caller item c.loop-leaf.found c.add_leaf.new.found (Err halt))
    (c.caller.ensures ∙ walked.0) c.in_err-add_leaf.ensures.found in
    finds_on _ c.args.found.now c.add_leaf.new.found halt c.from_residual-in_err-add_leaf.result
    c.from_residual-in_err-add_leaf.ensures.1
    (leaf_stops stage caller items c.loop-leaf.leaf-index c.args.found.now c.loop-leaf.found c.add_leaf.new.found
    c.loop-leaf.invariant.0 item c.loop-leaf-test.true c.leaf-item.is
    (walked_leaves site stage.scope.now c.args.found.now.left c.in-Some.walked walked items
    c.as_slice-leaf-items.ensures.value true) halt found levels before listed fits)

pub add_chains-returns-in_err-add_leaf-clause-over : goal.add_chains-returns-in_err-add_leaf-clause-over
add_chains-returns-in_err-add_leaf-clause-over g t c = (
  c.in_err-add_leaf.ensures.over.0 ∙ c.loop-leaf.invariant.1 ∙ c.in_ok-walked.ensures.over.0,
  λ each is. c.in_err-add_leaf.ensures.over.1 each
      (c.loop-leaf.invariant.2 each (c.in_ok-walked.ensures.over.1 each is)),
)

pub add_chains-loop-leaf-preserved : goal.add_chains-loop-leaf-preserved
add_chains-loop-leaf-preserved g t c =
    let stage = c.args.stage in
    let site = site_of stage.chains in
    let caller = caller_of site stage.scope.now in
    let item = c.leaf-item.result in
    let walked = subst (IsWalked site stage.scope.now c.args.found.now.left) c.in-Some.is c.in_ok-walked.ensures.walked
    in
    let found = subst (λ caller. AtOne stage caller item c.loop-leaf.found c.add_leaf.new.found (Ok
    c.in_ok-add_leaf.field-0))
    (c.caller.ensures ∙ walked.0) c.in_ok-add_leaf.ensures.found in (
      leaf_more stage caller c.as_slice-leaf-items.result.now c.loop-leaf.leaf-index c.args.found.now c.loop-leaf.found
          c.add_leaf.new.found c.loop-leaf.invariant.0 item c.loop-leaf-test.true c.leaf-item.is
          c.in_ok-add_leaf.field-0
          found,
      c.in_ok-add_leaf.ensures.over.0 ∙ c.loop-leaf.invariant.1,
      λ each is. c.in_ok-add_leaf.ensures.over.1 each (c.loop-leaf.invariant.2 each is),
    )

pub add_chains-returns-clause-found : goal.add_chains-returns-clause-found
add_chains-returns-clause-found g t c levels before listed fits =
    let stage = c.args.stage in
    let site = site_of stage.chains in
    let items = c.as_slice-leaf-items.result.now in
    let none : drop c.loop-leaf.leaf-index items ≡ [] = grind (arith, drop_all) in
    let walked = subst (IsWalked site stage.scope.now c.args.found.now.left) c.in-Some.is c.in_ok-walked.ensures.walked
    in
    leaves_over stage (caller_of site stage.scope.now) items c.loop-leaf.leaf-index c.args.found.now c.loop-leaf.found
    c.loop-leaf.found c.loop-leaf.invariant.0 none
    (walked_leaves site stage.scope.now c.args.found.now.left c.in-Some.walked walked items
    c.as_slice-leaf-items.ensures.value) tt levels before listed fits

-- ---- at a leaf

pub add_leaf-returns-in-None-clause-found : goal.add_leaf-returns-in-None-clause-found
add_leaf-returns-in-None-clause-found g t c levels before listed fits client leaf leaf_fits =
    let stage = c.args.stage in
    let own = c.args.leaf.now in
    let sent = subst (λ found. IsSent c.args.caller.now leaf.known.cell leaf.finish (sends_of found)) c.in-None.is
    (c.in_ok-sent_at.ensures client leaf leaf_fits) in
    let out = c.is_out.ensures ∙ sym (out_is c.args.caller.now own.end leaf.finish leaf_fits.finish) in
    finds_weaker c.args.found.now c.end.new.self c.end.result
    (λ cut ends is. (
      nowhere,
      subst (λ caller. IsSent caller leaf.known.cell leaf.finish nowhere) c.requires.caller sent,
      nowhere_on (site_of stage.chains) cut levels stage.scope.now before leaf stage.left ends
          (is ∙ ap (λ bad. end_at before leaf bad ∷ []) out),
    ))
    (c.end.ensures before client c.args.caller.now leaf fits leaf_fits)

pub add_leaf-returns-in-Some-clause-found : goal.add_leaf-returns-in-Some-clause-found
add_leaf-returns-in-Some-clause-found g t c levels before listed fits client leaf leaf_fits =
    let sent = c.in-Some.sent in
    let sends = to sent.status sent.parts.items in
    let is_sent = subst (λ found. IsSent c.args.caller.now leaf.known.cell leaf.finish (sends_of found)) c.in-Some.is
    (c.in_ok-sent_at.ensures client leaf leaf_fits) in
    finds_weaker c.args.found.now c.add_sent.new.found c.add_sent.result
    (λ cut ends is. (
      sends,
      subst (λ caller. IsSent caller leaf.known.cell leaf.finish sends) c.requires.caller is_sent,
      is,
    ))
    (c.add_sent.ensures.found c.args.caller.now levels before listed fits client leaf leaf_fits)

-- ---- what a location leads to

pub add_leds-loop-led-init : goal.add_leds-loop-led-init
add_leds-loop-led-init g t c =
    (no_leds c.args.stage c.args.leaf.now c.args.status c.args.leds.now c.args.found.now, refl, λ each is. is)

pub add_leds-returns-in_err-add_chains-clause-found : goal.add_leds-returns-in_err-add_chains-clause-found
add_leds-returns-in_err-add_chains-clause-found g t c caller levels before listed fits client leaf leaf_fits =
    let stage = c.args.stage in
    let own = c.args.leaf.now in
    let leds = c.args.leds.now in
    let at = c.loop-led.led-index in
    let item = c.led-item.result in
    let halt = c.in_err-add_chains.field-0.0 in
    let next = next_finds stage own c.args.status leds at c.args.found.now c.loop-led.found c.add_chains.new.found
    c.loop-led.invariant.0 item c.loop-led-test.true c.led-item.is
    (record { decisions = c.as_slice.result; first = Some c.first_at.result }) c.in_ok-scope.scope c.in-On.origin
    c.in-On.paths c.in-On.queries c.first_at.result (Err halt) c.in-On.is c.in_ok-scope.ensures refl c.first_at.ensures
    (c.as_slice.ensures ∙ c.in_ok-decisions.ensures) c.in_err-add_chains.ensures.found in
    finds_on _ c.args.found.now c.add_chains.new.found halt c.from_residual-in_err-add_chains.result
    c.from_residual-in_err-add_chains.ensures.1
    (led_stops stage own c.args.status leds at c.args.found.now c.loop-led.found c.add_chains.new.found
    c.loop-led.invariant.0 item c.loop-led-test.true c.led-item.is halt next levels before listed fits client caller
    leaf
    leaf_fits)

pub add_leds-loop-led-preserved : goal.add_leds-loop-led-preserved
add_leds-loop-led-preserved g t c =
    let stage = c.args.stage in
    let own = c.args.leaf.now in
    let leds = c.args.leds.now in
    let at = c.loop-led.led-index in
    let item = c.led-item.result in
    let done = c.in_ok-add_chains.field-0 in
    let next = next_finds stage own c.args.status leds at c.args.found.now c.loop-led.found c.add_chains.new.found
    c.loop-led.invariant.0 item c.loop-led-test.true c.led-item.is
    (record { decisions = c.as_slice.result; first = Some c.first_at.result }) c.in_ok-scope.scope c.in-On.origin
    c.in-On.paths c.in-On.queries c.first_at.result (Ok done) c.in-On.is c.in_ok-scope.ensures refl c.first_at.ensures
    (c.as_slice.ensures ∙ c.in_ok-decisions.ensures) c.in_ok-add_chains.ensures.found in (
      led_more stage own c.args.status leds at c.args.found.now c.loop-led.found c.add_chains.new.found
          c.loop-led.invariant.0 item c.loop-led-test.true c.led-item.is done next,
      c.in_ok-add_chains.ensures.over.0 ∙ c.loop-led.invariant.1,
      λ each is. c.in_ok-add_chains.ensures.over.1 each (c.loop-led.invariant.2 each is),
    )

pub add_leds-loop-led-preserved-in_default : goal.add_leds-loop-led-preserved-in_default
add_leds-loop-led-preserved-in_default g t c = (
  led_nowhere c.args.stage c.args.leaf.now c.args.status c.args.leds.now c.loop-led.led-index c.args.found.now
      c.loop-led.found c.loop-led.found c.loop-led.invariant.0 c.led-item.result c.loop-led-test.true c.led-item.is
      c.in_default.not-On,
  c.loop-led.invariant.1,
  c.loop-led.invariant.2,
)

pub add_leds-returns-clause-found : goal.add_leds-returns-clause-found
add_leds-returns-clause-found g t c caller levels before listed fits client leaf leaf_fits =
    let none : drop c.loop-led.led-index c.args.leds.now ≡ [] = grind (arith, drop_all) in
    leds_over c.args.stage c.args.leaf.now c.args.status c.args.leds.now c.loop-led.led-index c.args.found.now
    c.loop-led.found c.loop-led.invariant.0 none tt levels before listed fits client caller leaf leaf_fits

-- ---- a redirect

pub add_sent-returns-then-stage-eq0-clause-found : goal.add_sent-returns-then-stage-eq0-clause-found
add_sent-returns-then-stage-eq0-clause-found g t c caller levels before listed fits client leaf leaf_fits =
    let stage = c.args.stage in
    let site = site_of stage.chains in
    let sent = c.args.sent.now in
    let reached = c.in_ok-reached.reached.items in
    let are = subst (λ parts. AreReachedFrom parts [] site.hosts reached) c.as_slice-parts.ensures.value
    c.in_ok-reached.ensures in
    let own = c.has_own.ensures ∙ ap (list_any is_own) c.as_slice.ensures.value in
    finds_weaker c.args.found.now c.end.new.self c.end.result
    (λ cut ends is. last_on site cut levels stage.scope.now before leaf stage.left sent.status sent.parts.items reached
    ends
    c.if-stage-eq0.true are (is ∙ ap (λ bad. end_at before leaf bad ∷ []) own))
    (c.end.ensures before client caller leaf fits leaf_fits)

pub add_sent-returns-in_err-add_leds-clause-found : goal.add_sent-returns-in_err-add_leds-clause-found
add_sent-returns-in_err-add_leds-clause-found g t c caller levels before listed fits client leaf leaf_fits =
    let stage = c.args.stage in
    let site = site_of stage.chains in
    let sent = c.args.sent.now in
    let leds = c.in_ok-leds.leds.items in
    let halt = c.in_err-add_leds.field-0.0 in
    let led = subst (λ parts. AreLedFrom parts [] site.hosts leds) c.as_slice-parts.ensures.value c.in_ok-leds.ensures
    in
    let found = subst (λ leds. Finds (λ cut. AreFurther site cut levels (stage.left - 1) stage.scope.now before leaf
    sent.status leds) c.args.found.now c.add_leds.new.found (Err halt)) c.as_slice-leds.ensures.value
    (c.in_err-add_leds.ensures.found caller levels before listed fits client leaf leaf_fits) in
    finds_on _ c.args.found.now c.add_leds.new.found halt c.from_residual-in_err-add_leds.result
    c.from_residual-in_err-add_leds.ensures.1
    (sent_stops stage levels before leaf sent.status sent.parts.items leds c.if-stage-eq0.false led c.args.found.now
    c.add_leds.new.found halt found)

pub add_sent-returns-clause-found : goal.add_sent-returns-clause-found
add_sent-returns-clause-found g t c caller levels before listed fits client leaf leaf_fits =
    let stage = c.args.stage in
    let site = site_of stage.chains in
    let sent = c.args.sent.now in
    let leds = c.in_ok-leds.leds.items in
    let done = c.in_ok-add_leds.field-0 in
    let led = subst (λ parts. AreLedFrom parts [] site.hosts leds) c.as_slice-parts.ensures.value c.in_ok-leds.ensures
    in
    let found = subst (λ leds. Finds (λ cut. AreFurther site cut levels (stage.left - 1) stage.scope.now before leaf
    sent.status leds) c.args.found.now c.add_leds.new.found (Ok done)) c.as_slice-leds.ensures.value
    (c.in_ok-add_leds.ensures.found caller levels before listed fits client leaf leaf_fits) in
    let out = c.has_outward.ensures ∙ ap (list_any is_outward) c.as_slice-leds.ensures.value in
    let end = finds_weaker c.add_leds.new.found c.end-2.new.self c.end-2.result
    (λ cut ends is. is ∙ ap (λ bad. end_at before leaf bad ∷ []) out)
    (c.end-2.ensures before client caller leaf fits leaf_fits) in
    sent_more stage levels before leaf sent.status sent.parts.items leds c.if-stage-eq0.false led c.args.found.now
    c.add_leds.new.found c.end-2.new.self done c.end-2.result found end
