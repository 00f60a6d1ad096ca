use Rattle.hc_dfa.specs.Automata.{accepts}
use Rattle.hc_map.specs.Maps.{value_in}
use Rattle.hc_map.proofs.Gathering.{image_of_rows}
use Rattle.hc_map.proofs.images.image_in.Goals as goal

pub returns : goal.returns
returns c =
    image_of_rows (λ key. value_in key c.args.text.now) (accepts c.args.keys.now) _ _ _ _ c.in_ok-found.ensures
    (rw c.deref.ensures.value at c.in_ok-values.ensures) (rw c.as_slice.ensures.keys at c.in_ok-missing.ensures)
