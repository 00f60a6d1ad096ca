use Rattle.hc_steps.proofs.Kept.{each_is_kept}
use Rattle.hc_steps.proofs.laws.each_read_is_kept.Goals as goal

pub returns : goal.returns
returns c = λ reads read i. each_is_kept reads read i
