use Rattle.std.proofs.Common.{arith}
use Rattle.hc_lines.proofs.Spans.{from_first-back, up_to_last-front, without_end-front}
use Rattle.hc_lines.proofs.logical.read_line.Goals as goal

pub overflow_sub-start : goal.overflow_sub-start
overflow_sub-start c = rw c.from_first-inner.ensures ((from_first-back c.without_end-body.result.now).shorter)

pub overflow_cast-span : goal.overflow_cast-span
overflow_cast-span c =
    let body = rw (← c.without_end-body.ensures) at (without_end-front c.args.run.bytes.now).shorter in
    omega (arith, body)

pub overflow_cast-span-2 : goal.overflow_cast-span-2
overflow_cast-span-2 c =
    let body = rw (← c.without_end-body.ensures) at (without_end-front c.args.run.bytes.now).shorter in
    let inner = rw (← c.from_first-inner.ensures) at (from_first-back c.without_end-body.result.now).shorter in
    let last = rw (← c.up_to_last-source.ensures) at (up_to_last-front c.from_first-inner.result.now).shorter in
    omega (arith, body, inner, last)
