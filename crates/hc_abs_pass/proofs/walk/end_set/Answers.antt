use Rattle.hc_abs_pass.proofs.Trying.{end_accept}
use Rattle.hc_abs_pass.proofs.walk.end_set.Goals as goal

pub returns : goal.returns
returns c =
    end_accept c.as_bytes.result.now c.args.end.now c.in_ok-rests.rests _ c.as_bytes.ensures c.in_ok-rests.ensures
    c.in_ok-made.ensures
