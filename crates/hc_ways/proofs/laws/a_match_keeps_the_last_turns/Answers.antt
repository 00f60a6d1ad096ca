use Rattle.hc_ways.proofs.LastTurns.{are_last_turns}
use Rattle.hc_ways.proofs.laws.a_match_keeps_the_last_turns.Goals as goal

pub returns : goal.returns
returns c = are_last_turns
