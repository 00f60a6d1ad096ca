use Rattle.hc_lines.proofs.Spans.{spans-given}
use Rattle.hc_lines.proofs.logical.logical_lines.Goals as goal

pub returns-clause-spans : goal.returns-clause-spans
returns-clause-spans g c = spans-given c.args.file c.args.text.now c.read_lines.result c.read_lines.ensures
