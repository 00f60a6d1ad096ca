use Rattle.std.proofs.Common.{arith}
use Rattle.hc_kept_lines.proofs.Walking.{parts_ascii}
use Rattle.hc_kept_lines.proofs.cut.split_line.Goals as goal

pub cut_behind-requires-clause-ascii : goal.cut_behind-requires-clause-ascii
cut_behind-requires-clause-ascii c =
    parts_ascii c.args.text.now c.args.at (omega arith) (omega arith) c.requires.parts
