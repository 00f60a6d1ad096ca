use Rattle.std.proofs.Common.{ap, ◌∙◌, rules, tests}
use Rattle.std.proofs.lemmas.Iterator.Consumers.{YieldsList-at, YieldsList-end}
use Rattle.std.proofs.lemmas.Iterator.Splits.{YieldsList-from_slice_split}
use Rattle.hc_rw_parse.specs.RuleFlags.{flagged_by, is_comma}
use Rattle.hc_rw_parse.proofs.flags.flagged_by.Goals as goal

pub returns : goal.returns
returns c =
    let t = YieldsList-end
    (YieldsList-at c.into_iter-text-iterator.ensures.into_iter_gives
    (YieldsList-from_slice_split _ is_comma c.args.texts.now c.split-text-items.ensures.rest
    c.split-text-items.ensures.done c.split-text-items.ensures.closure (λ x r q k. search (rules, tests))))
    c.loop-text.yielded _ c.loop-text.yielded_by _ _ c.in-None.is c.next.ensures.steps in
    c.loop-text.invariant ∙ ap flagged_by t.0
