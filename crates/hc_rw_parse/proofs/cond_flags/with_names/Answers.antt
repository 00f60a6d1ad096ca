use Rattle.std.proofs.Common.{length, sym, ◌∙◌, rules, tests, arith}
use Rattle.std.proofs.lemmas.Iterator.Consumers.{YieldsList-at, YieldsList-turn, YieldsList-end}
use Rattle.std.proofs.lemmas.Iterator.Splits.{YieldsList-from_slice_split}
use Rattle.std.proofs.lemmas.List.{length_push}
use Rattle.std.specs.List.{slice_split}
use Rattle.hc_rw_parse.specs.RuleFlags.{is_comma}
use Rattle.hc_rw_parse.proofs.Names.{names_end, names_step}
use Rattle.hc_rw_parse.proofs.cond_flags.with_names.Goals as goal

pub returns-in_err-flags : goal.returns-in_err-flags
returns-in_err-flags c =
    let t = YieldsList-turn
    (YieldsList-at c.into_iter-name-iterator.ensures.into_iter_gives
    (YieldsList-from_slice_split _ is_comma c.args.names.now c.split-name-items.ensures.rest
    c.split-name-items.ensures.done c.split-name-items.ensures.closure (λ x r q k. search (rules, tests))))
    c.loop-name.yielded _ c.loop-name.yielded_by _ _ c.in-Some.name c.in-Some.is c.next.ensures.steps in
    let e = names_step c.loop-name.flags _ _ _ t in
    grind (arith, c.in_err-flags.was)

pub loop-name-preserved : goal.loop-name-preserved
loop-name-preserved c =
    let t = YieldsList-turn
    (YieldsList-at c.into_iter-name-iterator.ensures.into_iter_gives
    (YieldsList-from_slice_split _ is_comma c.args.names.now c.split-name-items.ensures.rest
    c.split-name-items.ensures.done c.split-name-items.ensures.closure (λ x r q k. search (rules, tests))))
    c.loop-name.yielded _ c.loop-name.yielded_by _ _ c.in-Some.name c.in-Some.is c.next.ensures.steps in
    let e = names_step c.loop-name.flags _ _ _ t in
    let n = length_push c.loop-name.yielded c.in-Some.name in
    record { can = search rules; finite = search rules; rest = rw n (grind arith) }

pub returns : goal.returns
returns c =
    let t = YieldsList-end
    (YieldsList-at c.into_iter-name-iterator.ensures.into_iter_gives
    (YieldsList-from_slice_split _ is_comma c.args.names.now c.split-name-items.ensures.rest
    c.split-name-items.ensures.done c.split-name-items.ensures.closure (λ x r q k. search (rules, tests))))
    c.loop-name.yielded _ c.loop-name.yielded_by _ _ c.in-None.is c.next.ensures.steps in
    sym (names_end c.loop-name.flags (slice_split is_comma c.args.names.now) (length c.loop-name.yielded)
    (omega (arith, t.1))) ∙ c.loop-name.invariant.rest
