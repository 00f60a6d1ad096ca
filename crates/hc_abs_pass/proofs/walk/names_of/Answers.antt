use Rattle.hc_abs_pass.proofs.Trying.{names_accept}
use Rattle.hc_abs_pass.proofs.walk.names_of.Goals as goal

pub returns : goal.returns
returns c =
    names_accept c.as_bytes.result.now c.args.end.now.front c.args.rests.now c.in_ok-components.components _
    c.as_bytes.ensures c.in_ok-components.ensures c.in_ok-made.ensures
