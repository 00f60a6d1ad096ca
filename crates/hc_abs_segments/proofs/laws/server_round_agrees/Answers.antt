use Rattle.hc_abs_segments.proofs.Server.{server_round_agrees}
use Rattle.hc_abs_segments.proofs.laws.server_round_agrees.Goals as goal

pub returns : goal.returns
returns c = server_round_agrees
