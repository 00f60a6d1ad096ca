use Rattle.std.proofs.Common.{◌++◌, take, arith}
use Rattle.hc_session.proofs.Known.{appends_more, sent_more}
use Rattle.hc_session.proofs.serve.send.Goals as goal

pub loop-rest-preserved : goal.loop-rest-preserved
loop-rest-preserved g c =
    let before = c.loop-rest.invariant in
    let n = c.in_ok-count.count in
    let rest = c.loop-rest.rest.now in (
      before.0 ++ take n rest,
      sent_more _ before.0 rest _ n before.1 c.split_at.ensures.back,
      appends_more _ _ _ before.0 (take n rest) before.2 c.in_ok-count.ensures.bytes,
      omega (arith, before.3, c.write.ensures.cause.later),
    )
