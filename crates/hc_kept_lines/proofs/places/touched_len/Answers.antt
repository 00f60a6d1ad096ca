use Rattle.std.proofs.Common.{◌++◌, arith, drop, sym, take, ◌∙◌}
use Rattle.hc_kept_lines.proofs.Touching.{Parts-both, TouchedTo-found, TouchedTo-more}
use Rattle.hc_kept_lines.proofs.places.touched_len.Goals as goal

pub returns-then-are_ended-clause-value : goal.returns-then-are_ended-clause-value
returns-then-are_ended-clause-value c =
    TouchedTo-found c.args.was.now c.args.now.now c.args.back.now c.loop-more.more
    (sym c.are_ended.ensures ∙ c.if-are_ended.true) c.loop-more.invariant

pub returns-then-are_ended-clause-was : goal.returns-then-are_ended-clause-was
returns-then-are_ended-clause-was c = (Parts-both (c.args.was.now ++ take c.loop-more.more c.args.back.now)
    (c.args.now.now ++ take c.loop-more.more c.args.back.now) (drop c.loop-more.more c.args.back.now)
    (sym c.are_ended.ensures ∙ c.if-are_ended.true)).0

pub returns-then-are_ended-clause-now : goal.returns-then-are_ended-clause-now
returns-then-are_ended-clause-now c = (Parts-both (c.args.was.now ++ take c.loop-more.more c.args.back.now)
    (c.args.now.now ++ take c.loop-more.more c.args.back.now) (drop c.loop-more.more c.args.back.now)
    (sym c.are_ended.ensures ∙ c.if-are_ended.true)).1

pub loop-more-preserved : goal.loop-more-preserved
loop-more-preserved c = TouchedTo-more c.args.was.now c.args.now.now c.args.back.now c.loop-more.more (omega arith)
    (sym c.are_ended.ensures ∙ c.if-are_ended.false) c.loop-more.invariant
