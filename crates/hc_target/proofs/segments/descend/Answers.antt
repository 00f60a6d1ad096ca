use Rattle.hc_target.proofs.Common.{length, sym, ◌∙◌, rules, tests, arith, length_push, slice_split, is_slash}
use Rattle.std.proofs.lemmas.Iterator.Consumers.{YieldsList-at, YieldsList-turn, YieldsList-end}
use Rattle.std.proofs.lemmas.Iterator.Splits.{YieldsList-from_slice_split}
use Rattle.hc_target.proofs.Leading.{led_step, led_end}
use Rattle.hc_target.proofs.segments.descend.Goals as goal

pub loop-segment-preserved : goal.loop-segment-preserved
loop-segment-preserved c =
    let t = YieldsList-turn
    (YieldsList-at c.into_iter-segment-iterator.ensures.into_iter_gives
    (YieldsList-from_slice_split _ is_slash c.args.path.now c.split-segment-items.ensures.rest
    c.split-segment-items.ensures.done c.split-segment-items.ensures.closure (λ x r q k. search (rules, tests))))
    c.loop-segment.yielded _ c.loop-segment.yielded_by _ _ c.in-Some.segment c.in-Some.is c.next.ensures.steps in
    let e = led_step c.loop-segment.place _ _ _ t in
    let n = length_push c.loop-segment.yielded c.in-Some.segment in
    record { can = search rules; finite = search rules; rest = rw n (grind arith) }

pub returns-in-None-2 : goal.returns-in-None-2
returns-in-None-2 c =
    let t = YieldsList-turn
    (YieldsList-at c.into_iter-segment-iterator.ensures.into_iter_gives
    (YieldsList-from_slice_split _ is_slash c.args.path.now c.split-segment-items.ensures.rest
    c.split-segment-items.ensures.done c.split-segment-items.ensures.closure (λ x r q k. search (rules, tests))))
    c.loop-segment.yielded _ c.loop-segment.yielded_by _ _ c.in-Some.segment c.in-Some.is c.next.ensures.steps in
    let e = led_step c.loop-segment.place _ _ _ t in
    grind arith

pub returns : goal.returns
returns c =
    let t = YieldsList-end
    (YieldsList-at c.into_iter-segment-iterator.ensures.into_iter_gives
    (YieldsList-from_slice_split _ is_slash c.args.path.now c.split-segment-items.ensures.rest
    c.split-segment-items.ensures.done c.split-segment-items.ensures.closure (λ x r q k. search (rules, tests))))
    c.loop-segment.yielded _ c.loop-segment.yielded_by _ _ c.in-None.is c.next.ensures.steps in
    sym (led_end c.loop-segment.place (slice_split is_slash c.args.path.now) (length c.loop-segment.yielded)
    (omega (arith, t.1))) ∙ c.loop-segment.invariant.rest
