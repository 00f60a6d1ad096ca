use Rattle.std.proofs.Common.{rules, tests, filter, ap, ◌∙◌}
use Rattle.std.proofs.lemmas.Iterator.Consumers.{YieldsList-at, YieldsList-end}
use Rattle.std.proofs.lemmas.Iterator.Splits.{YieldsList-from_slice_split}
use Rattle.hc_base.specs.Paths.{is_slash}
use Rattle.hc_include.specs.Include.{is_some_byte}
use Rattle.hc_include.proofs.candidates.parts_of.Goals as goal

pub returns : goal.returns
returns c =
    let t = YieldsList-end
    (YieldsList-at c.into_iter-part-iterator.ensures.into_iter_gives
    (YieldsList-from_slice_split _ is_slash c.args.path.now c.split-part-items.ensures.rest
    c.split-part-items.ensures.done c.split-part-items.ensures.closure (λ x r q k. search (rules, tests))))
    c.loop-part.yielded _ c.loop-part.yielded_by _ _ c.in-None.is c.next.ensures.steps in
    c.loop-part.invariant ∙ ap (filter is_some_byte) t.0
