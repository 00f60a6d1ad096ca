use Rattle.hc_abs_pass.proofs.Common.{◌∷◌, ℕ, [], arith}
use Rattle.std.proofs.Common.{◌-◌}
use Rattle.hc_abs_rw.specs.Known.{frame_at}
use Rattle.hc_abs_pass.specs.Listing.{placed_at}
use Rattle.hc_abs_pass.specs.declared.list.Place.TheVariants as at
use Rattle.hc_abs_pass.proofs.Listing.{skips, stays, tried_here}
use Rattle.hc_abs_pass.proofs.list.add_past.Goals as goal

pub returns-then-skipped-gt0 : goal.returns-then-skipped-gt0
returns-then-skipped-gt0 g c =
    let one = c.args.one in
    let less : ℕ = c.in-Before.skipped - 1 in (
      placed_at one.tied one.left (at.Before less) ∷ [],
      c.in_ok-push-in-Before.ensures.items,
      skips (frame_at g.S.Surroundings.kind g.S.Surroundings.values c.args.frame.now) c.args.frame.now.client
          c.args.rule.now c.args.behind.now one c.in-Before.skipped less c.in-Before.is (omega arith),
    )

pub returns-in_ok-append-in-Before : goal.returns-in_ok-append-in-Before
returns-in_ok-append-in-Before g c = (
  c.in_ok-found-in-Before.found.items,
  c.in_ok-append-in-Before.ensures.items,
  tried_here (frame_at g.S.Surroundings.kind g.S.Surroundings.values c.args.frame.now) c.args.frame.now.client
      c.args.rule.now c.args.behind.now c.args.one c.in-Before.skipped c.in_ok-found-in-Before.found.items
      c.in-Before.is (omega arith) c.in_ok-found-in-Before.ensures,
)

pub returns-in_ok-push-in-At : goal.returns-in_ok-push-in-At
returns-in_ok-push-in-At g c = (
  placed_at c.args.one.tied c.args.one.left (at.At c.in-At.stop) ∷ [],
  c.in_ok-push-in-At.ensures.items,
  stays (frame_at g.S.Surroundings.kind g.S.Surroundings.values c.args.frame.now) c.args.frame.now.client
      c.args.rule.now c.args.behind.now c.args.one c.in-At.stop c.in-At.is,
)
