use Rattle.hc_world.proofs.Common.{◌+◌, arith, subst, sym}
use Rattle.hc_world.specs.Lines.{IsBehind}
use Rattle.hc_world.proofs.Pieces.{IsBehind-more, IsBehind-none, no_lines_left, rest_len}
use Rattle.hc_world.proofs.lines.after_lines.Goals as goal

pub loop-init : goal.loop-init
loop-init c = IsBehind-none c.args.text.now c.utf8.text

more : (c : goal.After-first_line-at)
    → IsBehind c.args.text.now (c.loop.counter + 1) (c.loop.at + c.first_line-at.result)
more c =
    let text = c.args.text.now in
    let within = c.loop.invariant.within in
    subst (λ n. IsBehind text (c.loop.counter + 1) (c.loop.at + n))
    (sym (rest_len text c.as_bytes.result.now c.loop.at c.first_line-at.result c.as_bytes.ensures.value
    c.first_line-at.ensures))
    (IsBehind-more text c.loop.counter c.loop.at c.loop.invariant (omega arith))

pub loop-preserved : goal.loop-preserved
loop-preserved c = more c

pub overflow_add-at : goal.overflow_add-at
overflow_add-at c =
    let fits = (more c).within in
    let size = c.as_bytes.ensures.len in
    let room = c.as_bytes.type_inv.0 in
    omega arith

pub returns-then-at-text-clause-none : goal.returns-then-at-text-clause-none
returns-then-at-text-clause-none c =
    let few = no_lines_left c.args.text.now c.loop.counter c.loop.at c.loop.invariant c.if-at-text.true in
    omega arith
