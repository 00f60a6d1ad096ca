use Rattle.std.proofs.Common.{◌≡◌, [], true, rules}
use Rattle.hc_dfa.specs.Automata.{accepts}
use Rattle.hc_rw_sets.proofs.Roots.{all_slashed}
use Rattle.hc_rw_sets.proofs.locations.with_slash.Goals as goal

pub returns : goal.returns
returns c =
    let some : accepts c.args.set.now [] ≡ true = search rules in
    all_slashed c.args.set.now c.in_ok-slash.slash c.in_ok-paths.paths c.in_ok-slash.ensures c.in_ok-paths.ensures
    c.in_ok-root.root c.in_ok-made.made some c.in_ok-root.ensures c.in_ok-made.ensures
