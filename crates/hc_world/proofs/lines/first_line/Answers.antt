use Rattle.hc_world.proofs.Pieces.{line_len-found, line_len-none}
use Rattle.hc_world.proofs.lines.first_line.Goals as goal

pub returns-in-Some : goal.returns-in-Some
returns-in-Some c = line_len-found c.args.text.now c.in-Some.lf c.in-Some.ensures

pub returns-in-None : goal.returns-in-None
returns-in-None c = line_len-none c.args.text.now c.in-None.ensures
