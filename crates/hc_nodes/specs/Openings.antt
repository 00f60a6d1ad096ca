-- What the first pass over lines keeps: the openings that are open, and the first refusal so far.
use Rattle.std.specs.Prelude.{List, map, Option, Some, None}
use Rattle.hc_base.specs.declared.codes.TheConstants.{UNCLOSED_SECTION}
use Rattle.hc_base.specs.declared.fault.AtLine.{AtLine}
use Rattle.hc_lines.specs.declared.line.Line.{Line}
use Rattle.hc_nodes.specs.Tree.{or_earlier, refused_at}
use Rattle.hc_nodes.specs.declared.section.Opening.{Opening}

abbrev pub opening_lines : List Opening → List Line
opening_lines openings = map (λ opening. opening.line.now) openings

abbrev pub unclosed : Line → AtLine
unclosed opening = refused_at opening UNCLOSED_SECTION

abbrev pub earlier_of : Option AtLine → Option AtLine → Option AtLine
earlier_of None right = right
earlier_of (Some a) right = or_earlier a right
