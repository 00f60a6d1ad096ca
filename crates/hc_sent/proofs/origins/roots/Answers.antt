use Rattle.hc_follow.specs.Next.{front_of}
use Rattle.hc_rw_sets.proofs.Roots.{begun_accepts}
use Rattle.hc_sent.proofs.Behind.{roots_accept}
use Rattle.hc_sent.proofs.origins.roots.Goals as goal

pub returns : goal.returns
returns c =
    let fronts = rw (c.deref.ensures.value, c.in_ok-front.ensures) at c.in_ok-fronts.ensures in
    roots_accept c.args.origin.now c.in_ok-ports.ports c.in_ok-made.made c.in_ok-ports.ensures
    (begun_accepts (front_of c.args.origin.now) c.in_ok-fronts.fronts c.in_ok-ports.ports c.in_ok-made.made fronts
    c.in_ok-made.ensures)
