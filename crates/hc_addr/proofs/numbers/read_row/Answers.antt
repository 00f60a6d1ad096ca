use Rattle.hc_addr.proofs.Common.{◌==◌, length, sym, ◌∙◌, rules, tests, arith, slice_split, separator_of}
use Rattle.std.proofs.lemmas.Iterator.Consumers.{YieldsList-at, YieldsList-turn, YieldsList-end}
use Rattle.std.proofs.lemmas.Iterator.Splits.{YieldsList-from_slice_split}
use Rattle.std.proofs.lemmas.List.{length_push}
use Rattle.hc_addr.proofs.Rows.{on_step, on_end}
use Rattle.hc_addr.proofs.numbers.read_row.Goals as goal

pub returns-in_err-row-clause-value : goal.returns-in_err-row-clause-value
returns-in_err-row-clause-value c =
    let t = YieldsList-turn
    (YieldsList-at c.into_iter-piece-iterator.ensures.into_iter_gives
    (YieldsList-from_slice_split _ (λ b. b == separator_of c.args.form) c.args.text.now
    c.split-piece-items.ensures.rest c.split-piece-items.ensures.done c.split-piece-items.ensures.closure
    (λ x r q k. search (rules, tests))))
    c.loop-piece.yielded _ c.loop-piece.yielded_by _ _ c.in-Some.piece c.in-Some.is c.next.ensures.steps in
    let e = on_step c.args.form c.loop-piece.row _ _ _ t in
    grind (arith, c.in_err-row.was)

pub loop-piece-preserved : goal.loop-piece-preserved
loop-piece-preserved c =
    let t = YieldsList-turn
    (YieldsList-at c.into_iter-piece-iterator.ensures.into_iter_gives
    (YieldsList-from_slice_split _ (λ b. b == separator_of c.args.form) c.args.text.now
    c.split-piece-items.ensures.rest c.split-piece-items.ensures.done c.split-piece-items.ensures.closure
    (λ x r q k. search (rules, tests))))
    c.loop-piece.yielded _ c.loop-piece.yielded_by _ _ c.in-Some.piece c.in-Some.is c.next.ensures.steps in
    let e = on_step c.args.form c.loop-piece.row _ _ _ t in
    let n = length_push c.loop-piece.yielded c.in-Some.piece in
    record {
      can = search rules;
      finite = search rules;
      fits = search rules;
      room = search rules;
      rest = rw n (grind arith);
    }

pub returns-clause-value : goal.returns-clause-value
returns-clause-value c =
    let t = YieldsList-end
    (YieldsList-at c.into_iter-piece-iterator.ensures.into_iter_gives
    (YieldsList-from_slice_split _ (λ b. b == separator_of c.args.form) c.args.text.now
    c.split-piece-items.ensures.rest c.split-piece-items.ensures.done c.split-piece-items.ensures.closure
    (λ x r q k. search (rules, tests))))
    c.loop-piece.yielded _ c.loop-piece.yielded_by _ _ c.in-None.is c.next.ensures.steps in
    sym (on_end c.args.form c.loop-piece.row (slice_split (λ b. b == separator_of c.args.form) c.args.text.now)
    (length c.loop-piece.yielded) c.loop-piece.invariant.room (omega (arith, t.1))) ∙ c.loop-piece.invariant.rest
