use Rattle.hc_nodes.proofs.Common.{◌+◌, drop, sym, ap, ◌∙◌, earlier_of, opening_lines, first_of_all, refusals}
use Rattle.hc_nodes.proofs.Refusals.{earlier_refusals}
use Rattle.hc_nodes.proofs.Steps.{ahead}
use Rattle.hc_nodes.proofs.refusal.first_refusal.Goals as goal

pub loop-line-preserved : goal.loop-line-preserved
loop-line-preserved c =
    let lines = c.args.lines.now in
    let i = c.loop-line.line-index in
    let openings = opening_lines c.loop-line.openings in
    let next = ahead lines i c.line-item.result c.loop-line-test.true c.line-item.is in
    rw (c.earlier-first.ensures, c.refusal_at.ensures)
    (earlier_refusals c.loop-line.first openings (opening_lines c.pass_line.new.openings) c.line-item.result
    (drop (i + 1) lines) c.in_ok-pass_line.ensures
    ∙ ap (λ l. earlier_of c.loop-line.first (first_of_all (refusals openings l))) (sym next)
    ∙ c.loop-line.invariant)
