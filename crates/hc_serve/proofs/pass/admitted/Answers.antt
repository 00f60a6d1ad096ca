use Rattle.hc_serve.specs.Passing.{admitted}
use Rattle.hc_steps.specs.Shown.{shown_by}
use Rattle.hc_serve.proofs.pass.admitted.Goals as goal

pub returns : goal.returns
unfolding admitted
returns c = rw c.authorized-value.ensures at (c.admitted_by.ensures (shown_by c.args.asked.now.world.now.files))
