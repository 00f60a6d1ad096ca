use Rattle.hc_json.proofs.Floats.{rejected_without}
use Rattle.hc_json.proofs.rejected.print_rejected.Goals as goal

pub returns : goal.returns
returns c =
    rw c.in_ok-rejected_value.ensures at
    (c.print_value.ensures (rw c.in_ok-rejected_value.ensures (search rejected_without)))
