use Rattle.hc_texts.proofs.Worlds.{edited_texts}
use Rattle.hc_texts.proofs.laws.edited_stands.Goals as goal

pub returns : goal.returns
returns c = edited_texts
