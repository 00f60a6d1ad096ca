use Rattle.std.proofs.Common.{◌∷◌, ◌-◌, [], ℕ, arith}
use Rattle.hc_abs_view.specs.Placing.{placed_at}
use Rattle.hc_abs_view.specs.Tokens.{fork_of}
use Rattle.hc_abs_view.specs.declared.jump.Target.TheVariants.{Behind, Over}
use Rattle.hc_abs_view.proofs.Placing.{skips, stays}
use Rattle.hc_abs_view.proofs.placed.add_past.Goals as goal

pub returns-then-count-gt0 : goal.returns-then-count-gt0
returns-then-count-gt0 c =
    let one = c.args.one in
    let less : ℕ = c.in-Behind.count - 1 in (
      placed_at one.tied (Behind less) ∷ [],
      c.in_ok-push-in-Behind.ensures.items,
      skips c.args.scene (fork_of c.args.jump.now) one c.in-Behind.count less c.in-Behind.is (omega arith),
    )

pub returns-in_ok-push-in-Over : goal.returns-in_ok-push-in-Over
returns-in_ok-push-in-Over c = (
  placed_at c.args.one.tied (Over c.in-Over.is') ∷ [],
  c.in_ok-push-in-Over.ensures.items,
  stays c.args.scene (fork_of c.args.jump.now) c.args.one c.in-Over.is' c.in-Over.is,
)
