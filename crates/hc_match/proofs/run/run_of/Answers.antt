use Rattle.hc_match.proofs.Common.{is_first}
use Rattle.hc_match.proofs.Runs.{no_run, run_is}
use Rattle.hc_match.proofs.run.run_of.Goals as goal

pub returns-then-count-least-clause-none : goal.returns-then-count-least-clause-none
returns-then-count-least-clause-none c greedy held =
    no_run c.args.text.now (is_first c.args.set) c.args.turns.least c.from-least.result c.args.turns.most greedy
    c.in-Some.further c.args.at c.fitting-count.result held
    c.in-Some.ensures c.from-least.ensures c.fitting-count.ensures.value c.if-count-least.true

pub returns-clause-some : goal.returns-clause-some
returns-clause-some c greedy next held =
    run_is c.args.text.now (is_first c.args.set) c.args.turns.least c.from-least.result c.args.turns.most greedy
    c.in-Some.further c.args.at c.fitting-count.result next held
    c.in-Some.ensures c.from-least.ensures c.fitting-count.ensures.value c.if-count-least.false
