use Rattle.hc_texts.proofs.Worlds.{listed_texts}
use Rattle.hc_texts.proofs.laws.listed_stands.Goals as goal

pub returns : goal.returns
returns c = listed_texts
