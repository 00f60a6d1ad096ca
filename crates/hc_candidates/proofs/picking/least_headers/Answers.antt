use Rattle.std.proofs.Common.{◌∙◌, ◌∷◌, ◌+◌, ap, drop, sym}
use Rattle.std.proofs.lemmas.List.{drop_all, drop_more}
use Rattle.hc_candidates.proofs.Leasts.{least_pushed, least_whole}
use Rattle.hc_candidates.proofs.picking.least_headers.Goals as goal

pub loop-name-preserved : goal.loop-name-preserved
loop-name-preserved c = λ rest are.
    let names = c.args.names.now in
    let at = c.loop-name.name-index in
    least_pushed c.args.cell.now c.name-item.result names (drop at names) (drop (at + 1) names)
    _ c.loop-name.headers c.push_header.new.headers rest
    (drop_more names at c.name-item.result c.loop-name-test.true
    ∙ ap (λ one. one ∷ drop (at + 1) names) (sym c.name-item.is))
    c.in_ok-value.ensures c.in_ok-push_header.ensures c.loop-name.invariant are

pub returns : goal.returns
returns c = least_whole c.args.cell.now c.args.names.now (drop c.loop-name.name-index c.args.names.now)
    c.loop-name.headers (drop_all c.loop-name.name-index c.args.names.now c.loop-name-test.false) c.loop-name.invariant
