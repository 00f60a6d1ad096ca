use Rattle.hc_rw_sets.proofs.Common.{arith}
use Rattle.hc_rw_sets.proofs.Placing.{bytes_text, with_fronts_accept}
use Rattle.hc_rw_sets.proofs.paths.with_fronts.Goals as goal

pub returns : goal.returns
returns c =
    let front_bytes = bytes_text c.args.from.now (λ k. let fits = c.type_inv.from k in omega (arith, fits)) in
    with_fronts_accept c.args.from.now c.args.to.now front_bytes c.args.set.now _ _ _ _ _ c.in_ok-rest.ensures
    c.in_ok-fronted.ensures c.in_ok-others.ensures c.in_ok-placed.ensures c.in_ok-made.ensures
