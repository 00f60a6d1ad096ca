-- Powers that fit, and what is left behind a division.
use Rattle.std.proofs.Math.Nat.{pow-le-pow_right}
use Rattle.hc_net_sets.proofs.Common.{ℕ, ◌<◌, ◌≤◌, ◌^◌, arith, lit<}
use Rattle.hc_net_sets.specs.Sought.{base_of}
use Rattle.hc_net_sets.specs.declared.sought.Family.{Family}
use Rattle.hc_net_sets.specs.declared.sought.Family.TheVariants.{Four, Six}

pub base_fits : (family : Family) (place : ℕ) → place < 8 → base_of family ^ place < 2 ^ 128
base_fits Four place few = let k = pow-le-pow_right {n = 256} (lit< tt) (let le : place ≤ 7 = omega arith in le) in
    omega arith
base_fits Six place few = let k = pow-le-pow_right {n = 65536} (lit< tt) (let le : place ≤ 7 = omega arith in le) in
    omega arith

pub group_fits : (place : ℕ) → place < 8 → 65536 ^ place < 2 ^ 128
group_fits place few = base_fits Six place few

pub base_some : (family : Family) (place : ℕ) → 0 < base_of family ^ place
base_some Four place = let k = pow-le-pow_right {n = 256} (lit< tt)
    (let le : 0 ≤ place = omega arith in le) in omega arith
base_some Six place = let k = pow-le-pow_right {n = 65536} (lit< tt)
    (let le : 0 ≤ place = omega arith in le) in omega arith
