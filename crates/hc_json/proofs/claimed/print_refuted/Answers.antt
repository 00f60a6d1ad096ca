use Rattle.hc_json.proofs.Floats.{refuted_without}
use Rattle.hc_json.proofs.claimed.print_refuted.Goals as goal

pub returns : goal.returns
returns c =
    rw c.in_ok-refuted_value.ensures at
    (c.print_value.ensures (rw c.in_ok-refuted_value.ensures (search refuted_without)))
