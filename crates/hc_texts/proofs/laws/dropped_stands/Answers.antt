use Rattle.hc_texts.proofs.Worlds.{dropped_texts}
use Rattle.hc_texts.proofs.laws.dropped_stands.Goals as goal

pub returns : goal.returns
returns c = dropped_texts
