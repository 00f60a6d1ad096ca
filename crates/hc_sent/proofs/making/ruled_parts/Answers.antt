use Rattle.std.proofs.Common.{arith, refl}
use Rattle.hc_rw_sets.proofs.Placing.{bytes_text}
use Rattle.hc_sent.proofs.MadeSets.{same_member, sole}
use Rattle.hc_sent.proofs.making.ruled_parts.Goals as goal

pub returns : goal.returns
returns c = (
  bytes_text c.args.front.now (λ k. let fits = c.type_inv.front k in omega (arith, fits)),
  (
    _,
    _,
    _,
    c.in_ok-parts.ensures,
    (sole c.args.front.now _ c.in_ok-start.ensures, refl),
    (same_member c.args.locations.now _ c.in_ok-locations.ensures.cases, refl),
    (same_member c.args.queries.now _ c.in_ok-queries.ensures.cases, refl),
  ),
)
