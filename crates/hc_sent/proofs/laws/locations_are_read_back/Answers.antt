use Rattle.hc_sent.proofs.Reading.{read_back}
use Rattle.hc_sent.proofs.laws.locations_are_read_back.Goals as goal

pub returns : goal.returns
returns c = read_back
