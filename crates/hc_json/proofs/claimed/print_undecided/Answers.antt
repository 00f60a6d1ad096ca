use Rattle.hc_json.proofs.Floats.{undecided_without}
use Rattle.hc_json.proofs.claimed.print_undecided.Goals as goal

pub returns : goal.returns
returns c =
    rw c.in_ok-undecided_value.ensures at
    (c.print_value.ensures (rw c.in_ok-undecided_value.ensures (search undecided_without)))
