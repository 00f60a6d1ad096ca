use Rattle.std.proofs.Common.{◌≡◌, rules}
use Rattle.hc_dfa.specs.Automata.{accepts}
use Rattle.hc_sent.proofs.MadeSets.{all_filled}
use Rattle.hc_sent.proofs.making.filled.Goals as goal

pub returns : goal.returns
returns c =
    let items : c.as_slice.result.now ≡ c.in_ok-sets.sets.items = search rules in
    all_filled (accepts c.args.paths.now) c.args.from.now c.args.pieces.now c.in_ok-sets.sets.items c.in_ok-made.made
    c.in_ok-sets.ensures (rw items at c.in_ok-made.ensures)
