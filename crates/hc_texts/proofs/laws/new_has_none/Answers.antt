use Rattle.hc_texts.proofs.Worlds.{new_texts}
use Rattle.hc_texts.proofs.laws.new_has_none.Goals as goal

pub returns : goal.returns
returns c = new_texts
