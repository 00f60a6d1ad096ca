use Rattle.std.proofs.Common.{arith}
use Rattle.hc_rw_sets.proofs.Placing.{bytes_text}
use Rattle.hc_sent.proofs.MadeSets.{absolute_set}
use Rattle.hc_sent.proofs.making.fronted.Goals as goal

pub returns : goal.returns
returns c = (
  absolute_set c.args.front.now c.args.filled.now _ _ _ _ _ c.in_ok-slashed.ensures c.in_ok-paths.ensures
      c.in_ok-others.ensures c.in_ok-own.ensures c.in_ok-made.ensures,
  bytes_text c.args.front.now (λ k. let fits = c.type_inv.front k in omega (arith, fits)),
)
