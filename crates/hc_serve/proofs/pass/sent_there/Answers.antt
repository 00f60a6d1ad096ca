use Rattle.hc_serve.specs.Passing.{sent_there}
use Rattle.hc_steps.specs.Shown.{shown_by}
use Rattle.hc_serve.proofs.pass.sent_there.Goals as goal

pub returns : goal.returns
unfolding sent_there
returns c =
    rw (c.in_ok-away.ensures, c.as_slice.ensures, c.as_bytes.ensures, c.as_bytes-2.ensures, c.query_left.ensures) at
    (c.sent_by.ensures (shown_by c.args.asked.now.world.now.files))
