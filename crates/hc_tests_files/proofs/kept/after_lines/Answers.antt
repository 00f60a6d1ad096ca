use Rattle.std.proofs.Common.{◌+◌, arith, subst, sym}
use Rattle.hc_kept_lines.specs.Places.{IsBehind}
use Rattle.hc_kept_lines.proofs.Pieces.{IsBehind-more, IsBehind-none, rest_len}
use Rattle.hc_tests_files.proofs.kept.after_lines.Goals as goal

pub loop-init : goal.loop-init
loop-init c = IsBehind-none c.args.text.now c.utf8.text

more : (c : goal.After-piece_len-at)
    → IsBehind c.args.text.now (c.loop.counter + 1) (c.loop.at + c.piece_len-at.result)
more c =
    let text = c.args.text.now in
    let within = c.loop.invariant.within in
    subst (λ n. IsBehind text (c.loop.counter + 1) (c.loop.at + n))
    (sym (rest_len text c.as_bytes.result.now c.loop.at c.piece_len-at.result c.as_bytes.ensures.value
    c.piece_len-at.ensures))
    (IsBehind-more text c.loop.counter c.loop.at c.loop.invariant (omega arith))

pub loop-preserved : goal.loop-preserved
loop-preserved c = more c

pub overflow_add-at : goal.overflow_add-at
overflow_add-at c =
    let fits = (more c).within in
    let size = c.as_bytes.ensures.len in
    let room = c.as_bytes.type_inv.0 in
    omega arith
