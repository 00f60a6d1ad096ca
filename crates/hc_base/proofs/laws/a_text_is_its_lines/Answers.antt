use Rattle.hc_base.proofs.Lines.{are_lines_of}
use Rattle.hc_base.proofs.laws.a_text_is_its_lines.Goals as goal

pub returns : goal.returns
returns c = are_lines_of
