use Rattle.hc_target.proofs.ReadBack.{read_back}
use Rattle.hc_target.proofs.laws.an_escaped_path_is_read_back.Goals as goal

pub returns : goal.returns
returns c = read_back
