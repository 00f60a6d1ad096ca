use Rattle.hc_texts.proofs.Worlds.{put_texts}
use Rattle.hc_texts.proofs.laws.put_stands.Goals as goal

pub returns : goal.returns
returns c = put_texts
