use Rattle.hc_nodes.proofs.Common.{◌≡◌, ◌+◌, [], drop, sym, ap, ◌∙◌, refl, nodes_view, section_lines}
use Rattle.hc_nodes.proofs.Common.{whole, levels_of, refusals}
use Rattle.std.proofs.Math.ListN.{drop_of_length-le}
use Rattle.hc_nodes.proofs.Building.{whole_end}
use Rattle.hc_nodes.proofs.Steps.{ahead}
use Rattle.hc_nodes.proofs.Trees.{first_none, unbroken}
use Rattle.hc_nodes.proofs.build.build_nodes.Goals as goal

pub loop-line-init : goal.loop-line-init
loop-line-init c =
    rw (c.new-sections.ensures, c.new-nodes.ensures.items) (record { unbroken = first_none _ c.requires; same = refl })

pub read_line-requires : goal.read_line-requires
read_line-requires c =
    let lines = c.args.lines.now in
    let i = c.loop-line.line-index in
    let open_lines = section_lines c.loop-line.sections in
    let next = ahead lines i c.line-item.result c.loop-line-test.true c.line-item.is in
    (unbroken c.line-item.result (drop (i + 1) lines) open_lines
    (ap (refusals open_lines) (sym next) ∙ c.loop-line.invariant.unbroken)).0

pub loop-line-preserved : goal.loop-line-preserved
loop-line-preserved c =
    let lines = c.args.lines.now in
    let i = c.loop-line.line-index in
    let open_lines = section_lines c.loop-line.sections in
    let more = drop (i + 1) lines in
    let next = ahead lines i c.line-item.result c.loop-line-test.true c.line-item.is in
    let later =
    unbroken c.line-item.result more open_lines
    (ap (refusals open_lines) (sym next) ∙ c.loop-line.invariant.unbroken) in
    record {
      unbroken = ap (λ o. refusals o more) c.in_ok-nodes.ensures.lines ∙ later.1;
      same = c.in_ok-nodes.ensures.same (levels_of more)
          ∙ ap (λ l. whole c.loop-line.sections (nodes_view c.loop-line.nodes.items) (levels_of l)) (sym next)
          ∙ c.loop-line.invariant.same;
    }

pub returns : goal.returns
returns c =
    let sections = c.loop-line.sections in
    let nodes = nodes_view c.loop-line.nodes.items in
    let gone : drop c.loop-line.line-index c.args.lines.now ≡ [] =
    drop_of_length-le c.args.lines.now c.loop-line-test.false in
    sym (whole_end sections nodes (ap (refusals (section_lines sections)) (sym gone)
    ∙ c.loop-line.invariant.unbroken))
    ∙ ap (λ l. whole sections nodes (levels_of l)) (sym gone) ∙ c.loop-line.invariant.same
