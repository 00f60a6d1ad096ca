-- The gates that are made of gates.
use Rattle.std.specs.Prelude.{◌≡◌, ◌||◌, List, [], ◌∷◌, ◌++◌, length, true, false}
use Rattle.std.specs.Prelude.{if◌then◌else◌}
use Rattle.hc_pat_lang.specs.declared.gates.Gate.{Gate}
use Rattle.hc_pat_lang.specs.declared.gates.Point.{Point}
use Rattle.hc_pat_lang.specs.declared.nodes.Node.{Node}
use Rattle.hc_pat_lang.specs.declared.nodes.Node.TheVariants.{Fork}

-- The first node, which takes no text.
abbrev pub nowhere : Point
nowhere = record { state = 0; ends = false }

abbrev pub nowhere_gate : Gate
nowhere_gate = record { first = nowhere; still = nowhere; moved = nowhere }

-- The third node, which takes every text.
abbrev pub anything : Gate
anything =
    let point : Point = record { state = 2; ends = true } in
    record { first = point; still = point; moved = point }

-- The second node takes the empty text alone.
abbrev pub finish_point : Point → Point
finish_point point = if point.ends then record { state = 1; ends = true } else nowhere

abbrev pub finish_gate : Gate → Gate
finish_gate gate =
    record { first = finish_point gate.first; still = finish_point gate.still; moved = finish_point gate.moved }

abbrev pub start_gate : Gate → Gate
start_gate gate = record { first = gate.first; still = nowhere; moved = nowhere }

-- The second node wherever a byte has been taken or a place has been left.
abbrev pub alone_gate : Gate → Gate
alone_gate gate = record { first = gate.first; still = gate.still; moved = gate.still }

-- A new node, which takes no empty text.
pub record IsStep (old new : List Node) (node : Node) (entries : Gate) : Type 0 where
  pub nodes : new ≡ old ++ node ∷ []
  pub first : entries.first ≡ record { state = length old; ends = false }
  pub still : entries.still ≡ record { state = length old; ends = false }
  pub moved : entries.moved ≡ record { state = length old; ends = false }

-- A new node for two points.
pub record IsFork (old new : List Node) (first second point : Point) : Type 0 where
  pub nodes : new ≡ old ++ Fork first.state second.state ∷ []
  pub is : point ≡ record { state = length old; ends = first.ends || second.ends }

-- New nodes for the points of two gates.
pub record IsJoin (old new : List Node) (first second entries : Gate) : Type 0 where
  pub one : List Node
  pub two : List Node
  pub at_first : IsFork old one first.first second.first entries.first
  pub at_still : IsFork one two first.still second.still entries.still
  pub at_moved : IsFork two new first.moved second.moved entries.moved
