use Rattle.hc_json.proofs.Floats.{trailed_without}
use Rattle.hc_json.proofs.trail.print_trailed.Goals as goal

pub returns : goal.returns
returns c =
    rw c.in_ok-trailed_value.ensures at
    (c.print_value.ensures (rw c.in_ok-trailed_value.ensures (search trailed_without)))
