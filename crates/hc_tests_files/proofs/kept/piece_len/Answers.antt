use Rattle.hc_kept_lines.proofs.Pieces.{piece_len-found, piece_len-none}
use Rattle.hc_tests_files.proofs.kept.piece_len.Goals as goal

pub returns-in-Some : goal.returns-in-Some
returns-in-Some c = piece_len-found c.args.text.now c.in-Some.lf c.in-Some.ensures

pub returns-in-None : goal.returns-in-None
returns-in-None c = piece_len-none c.args.text.now c.in-None.ensures
