use Rattle.hc_dfa.proofs.Replaced.{images_accepted}
use Rattle.hc_dfa.proofs.image.byte_image.Goals as goal

pub returns : goal.returns
returns c = images_accepted c.args.set.now c.start.ensures.table c.args.table.now _
    (rw c.start.ensures.value at c.in_ok-image.ensures)
