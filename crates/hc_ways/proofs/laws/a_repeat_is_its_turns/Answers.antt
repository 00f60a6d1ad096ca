use Rattle.hc_ways.proofs.Turns.{is_its_turns}
use Rattle.hc_ways.proofs.laws.a_repeat_is_its_turns.Goals as goal

pub returns : goal.returns
returns c = is_its_turns
