use Rattle.hc_nodes.proofs.Common.{◌≡◌, drop, [], nodes_view, section_lines, whole, levels_of, next_of, refusals}
use Rattle.hc_nodes.proofs.build.build_nodes.Given as goal

abbrev pub invariant-loop-line : goal.invariant-loop-line
invariant-loop-line l = record {
  unbroken : refusals (section_lines l.sections) (drop l.line-index l.lines) ≡ [];
  same : whole l.sections (nodes_view l.nodes.items) (levels_of (drop l.line-index l.lines))
      ≡ next_of (levels_of l.lines);
}
