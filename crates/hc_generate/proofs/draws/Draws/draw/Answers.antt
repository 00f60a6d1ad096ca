use Rattle.std.proofs.Common.{ap, ◌*◌, ◌/◌, ◌%◌}
use Rattle.std.proofs.Math.Nat.{mod-add-mod}
use Rattle.hc_generate.specs.Draws.{next}
use Rattle.hc_generate.proofs.draws.Draws.draw.Goals as goal

pub returns : goal.returns
unfolding next
returns c =
    ap (λ x. (x / 8589934592 % c.args.n, x))
    (mod-add-mod (c.args.self.now.x * 6364136223846793005) 18446744073709551616 1442695040888963407)
