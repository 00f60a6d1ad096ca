use Rattle.hc_nodes.proofs.Common.{ap, ◌∙◌, sym, refl, nodes_view, section_lines, whole, directive_at, none}
use Rattle.std.proofs.lemmas.Result.{IfOk-weaker}
use Rattle.hc_nodes.proofs.Building.{whole_close, whole_opening, whole_more}
use Rattle.hc_nodes.proofs.Steps.{directive_with, opening_parts, opening_with, plain_unbroken}
use Rattle.hc_nodes.proofs.build.read_line.Goals as goal

pub returns-then-is_close-clause-same : goal.returns-then-is_close-clause-same
returns-then-is_close-clause-same c =
    let is = sym c.is_close.ensures ∙ c.if-is_close.true in
    IfOk-weaker c.close.result _ _
    (λ later closing levels. whole_close c.args.sections.now c.close.new.sections (nodes_view c.args.nodes.items)
    (nodes_view later.items) c.args.line.now levels is c.requires closing) c.close.ensures

pub returns-in_ok-push-clause-same : goal.returns-in_ok-push-clause-same
returns-in_ok-push-clause-same c = λ levels.
    let parts = opening_parts c.args.line.now (sym c.is_complete.ensures ∙ c.if-is_complete.true) in
    rw c.new.ensures.items
    (whole_opening c.push.new.self c.args.sections.now _ levels c.in_ok-push.ensures
    ∙ rw (
      opening_with c.args.line.now levels parts.1 parts.0,
      c.split_name.ensures.name,
      c.split_name.ensures.behind,
      c.inside_brackets.ensures,
    ) refl)

pub returns-else-is_complete-clause-same : goal.returns-else-is_complete-clause-same
returns-else-is_complete-clause-same c =
    let line = c.args.line.now in
    let sections = c.args.sections.now in
    let nodes = nodes_view c.args.nodes.items in
    let plain = plain_unbroken line (section_lines sections) (sym c.is_close.ensures ∙ c.if-is_close.false)
    (sym c.is_complete.ensures ∙ c.if-is_complete.false) c.requires in
    IfOk-weaker c.with_directive.result _ _
    (λ later is levels. ap (λ n. whole sections n levels) is ∙ whole_more sections nodes (directive_at line none)
    levels ∙ sym (ap (whole sections nodes) (directive_with line levels plain))) c.with_directive.ensures
