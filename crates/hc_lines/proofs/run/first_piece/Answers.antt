use Rattle.std.proofs.Common.{rules, tests}
use Rattle.hc_lines.proofs.Pieces.{lf-at_cut, pieces-cut_at, pieces-last_at}
use Rattle.hc_lines.proofs.run.first_piece.Goals as goal

pub returns-in-Some-clause-cut : goal.returns-in-Some-clause-cut
returns-in-Some-clause-cut c = search (rules, tests, pieces-cut_at)

pub returns-in-Some-clause-end : goal.returns-in-Some-clause-end
returns-in-Some-clause-end c = λ more. search (rules, tests, lf-at_cut)

pub returns-in-None-clause-cut : goal.returns-in-None-clause-cut
returns-in-None-clause-cut c = search (rules, tests, pieces-last_at)
