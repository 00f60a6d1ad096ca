use Rattle.std.proofs.Common.{arith, sym}
use Rattle.hc_vhost.proofs.Fitting.{leads_byte}
use Rattle.hc_vhost.proofs.name.byte_step.Goals as goal

pub returns-in-Some : goal.returns-in-Some
returns-in-Some c =
    rw (c.in-Some.ensures.cases.0) (
      leads_byte c.args.byte c.in-Some.other.now c.args.behind.now c.in-Some.rest.now c.requires
          (sym c.if-stands_for.ensures),
      omega arith,
    )
