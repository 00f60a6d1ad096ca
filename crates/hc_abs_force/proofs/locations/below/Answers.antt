use Rattle.std.proofs.Common.{rules}
use Rattle.std.proofs.Common.{◌≡◌, ◌++◌, ◌∷◌, [], sym}
use Rattle.hc_abs_force.proofs.Prefixes.{below_is}
use Rattle.hc_abs_force.proofs.locations.below.Goals as goal

pub returns : goal.returns
returns c =
    let front : c.deref.result.now ≡ c.args.from.now ++ 47 ∷ [] = search rules in
    below_is c.args.from.now c.deref.result.now c.in_ok-own.own c.in_ok-further.further c.in_ok-made.made
    (sym c.if-ends_with_slash.ensures) front c.in_ok-own.ensures c.in_ok-further.ensures c.in_ok-made.ensures
