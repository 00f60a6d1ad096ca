use Rattle.std.proofs.Common.{arith}
use Rattle.hc_rw_sets.proofs.Placing.{bytes_text}
use Rattle.hc_sent.proofs.MadeSets.{sole}
use Rattle.hc_sent.proofs.making.bytes_set.Goals as goal

pub returns : goal.returns
returns c = (
  sole c.args.bytes.now _ c.in_ok-made.ensures,
  bytes_text c.args.bytes.now (λ k. let fits = c.type_inv.bytes k in omega (arith, fits)),
)
