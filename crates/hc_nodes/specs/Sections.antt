-- What the second pass over lines keeps: the sections that are open, and the nodes before each.
use Rattle.std.specs.Prelude.{◌≡◌, List, [], ◌∷◌, map, drop}
use Rattle.hc_lines.specs.declared.line.Line.{Line}
use Rattle.hc_nodes.specs.NodeView.{nodes_view}
use Rattle.hc_nodes.specs.Tree.{Nodes, none, directive, block, next_of}
use Rattle.hc_nodes.specs.declared.build.Section.{Section}

abbrev pub section_lines : List Section → List Line
section_lines sections = map (λ section. section.line.now) sections

-- Nodes and then others.
abbrev pub followed : Nodes → Nodes → Nodes
followed none after = after
followed (directive line name rest next) after = directive line name rest (followed next after)
followed (block line name args body next) after = block line name args body (followed next after)

abbrev pub section_closed : Section → Nodes → Nodes
section_closed section body =
    followed (nodes_view section.before.items) (block section.line.now section.name.now section.args.now body none)

-- The tree of open sections, the nodes so far in the innermost, and the levels of the lines to come.
abbrev pub whole : List Section → Nodes → List Nodes → Nodes
whole [] nodes levels = followed nodes (next_of levels)
whole (section ∷ open_sections) nodes levels =
    whole open_sections (section_closed section (followed nodes (next_of levels))) (drop 1 levels)

-- The innermost section has gone behind the nodes before it. Where none is open nothing is said.
abbrev pub IsClosed : List Section → Nodes → List Section → Nodes → Type 0
IsClosed [] body later nodes = Unit {0}
IsClosed (section ∷ open_sections) body later nodes = (later ≡ open_sections)
    × (nodes ≡ section_closed section body)
