use Rattle.std.proofs.Common.{rules, tests, refl, sym, ap, ◌∙◌, subst, None}
use Rattle.std.specs.List.{slice_split}
use Rattle.std.specs.Option.{option_or}
use Rattle.std.proofs.lemmas.Iterator.Consumers.{YieldsList-at, YieldsList-end, YieldsList-turn}
use Rattle.std.proofs.lemmas.List.{length_push}
use Rattle.std.proofs.lemmas.Iterator.Splits.{YieldsList-from_slice_split}
use Rattle.hc_base.specs.Lines.{is_lf}
use Rattle.hc_dfa.specs.Automata.{accepts}
use Rattle.hc_map.specs.Gathered.{AreGathered, with_row}
use Rattle.hc_map.specs.Maps.{Row}
use Rattle.hc_map.specs.Searching.{value_by_row}
use Rattle.hc_map.proofs.Gathering.{no_rows, or_none}
use Rattle.hc_map.proofs.Rows.{none_at, none_left, row_at}
use Rattle.hc_map.proofs.images.found_in.Goals as goal

pub loop-line-init : goal.loop-line-init
loop-line-init c =
    ((λ key. None), rw (c.new.ensures.empty, c.new-2.ensures.items) (no_rows (accepts c.args.set.now)), λ key. refl)

pub loop-line-preserved-in_default : goal.loop-line-preserved-in_default
loop-line-preserved-in_default c =
    let t = YieldsList-turn
    (YieldsList-at c.into_iter-line-iterator.ensures.into_iter_gives
    (YieldsList-from_slice_split _ is_lf c.args.text.now c.split-line-items.ensures.rest
    c.split-line-items.ensures.done c.split-line-items.ensures.closure (λ x r q k. search (rules, tests))))
    c.loop-line.yielded _ c.loop-line.yielded_by _ _ c.in-Some.line c.in-Some.is c.next.ensures.steps in
    let before = c.loop-line.invariant.0 in
    rw (length_push c.loop-line.yielded c.in-Some.line) (
      before,
      c.loop-line.invariant.1,
      λ key.
          ap (option_or (before key)) (none_at key _ _ _ t (ap (value_by_row key) c.in_default.ensures))
          ∙ c.loop-line.invariant.2 key,
    )

pub loop-line-preserved : goal.loop-line-preserved
loop-line-preserved c =
    let t = YieldsList-turn
    (YieldsList-at c.into_iter-line-iterator.ensures.into_iter_gives
    (YieldsList-from_slice_split _ is_lf c.args.text.now c.split-line-items.ensures.rest
    c.split-line-items.ensures.done c.split-line-items.ensures.closure (λ x r q k. search (rules, tests))))
    c.loop-line.yielded _ c.loop-line.yielded_by _ _ c.in-Some.line c.in-Some.is c.next.ensures.steps in
    let before = c.loop-line.invariant.0 in
    let row : Row = (c.in-Some-row_in.row.key.now, c.in-Some-row_in.row.value.now) in
    rw (length_push c.loop-line.yielded c.in-Some.line) (
      with_row before row,
      c.in_ok-add.ensures before c.loop-line.invariant.1,
      λ key.
          row_at key _ _ _ row (before key) t c.in-Some-row_in.ensures ∙ c.loop-line.invariant.2 key,
    )

pub returns : goal.returns
returns c =
    let t = YieldsList-end
    (YieldsList-at c.into_iter-line-iterator.ensures.into_iter_gives
    (YieldsList-from_slice_split _ is_lf c.args.text.now c.split-line-items.ensures.rest
    c.split-line-items.ensures.done c.split-line-items.ensures.closure (λ x r q k. search (rules, tests))))
    c.loop-line.yielded _ c.loop-line.yielded_by _ _ c.in-None.is c.next.ensures.steps in
    let before = c.loop-line.invariant.0 in
    let found = c.loop-line.found in
    subst (λ value. AreGathered value (accepts c.args.set.now) found.keys.keys found.values.items)
    (λ i key. (sym (or_none (before key))
    ∙ ap (option_or (before key)) (none_left key (slice_split is_lf c.args.text.now) _ (sym t.1))
    ∙ c.loop-line.invariant.2 key) i)
    c.loop-line.invariant.1
