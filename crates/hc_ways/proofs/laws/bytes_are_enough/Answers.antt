use Rattle.hc_ways.proofs.Common.{length, last_ways, with_group}
use Rattle.hc_ways.proofs.Turns.{bounded, enough_turns}
use Rattle.hc_ways.proofs.laws.bytes_are_enough.Goals as goal

pub returns : goal.returns
returns c text body greedy = enough_turns (length text) greedy (last_ways text body) (bounded with_group text body)
