use Rattle.hc_json.proofs.Floats.{followed_without}
use Rattle.hc_json.proofs.followed.print_followed.Goals as goal

pub returns : goal.returns
returns c =
    rw c.in_ok-followed_value.ensures at
    (c.print_value.ensures (rw c.in_ok-followed_value.ensures (search followed_without)))
