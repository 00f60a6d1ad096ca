use Rattle.hc_lines.proofs.Runs.{are_runs_of}
use Rattle.hc_lines.proofs.laws.logical_lines_are_maximal_runs.Goals as goal

pub returns : goal.returns
returns c = are_runs_of
