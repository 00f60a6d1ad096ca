-- Nodes, each of which stands for texts: the machine of a pattern, before it is one of steps.
use Rattle.std.specs.Prelude.{◌≡◌, ℕ, ◌+◌, ◌<◌, ◌≤◌, List, [], ◌∷◌, length, slice_get, Some}
use Rattle.std.specs.Prelude.{true}
use Rattle.hc_pattern.specs.Bits.{has_byte}
use Rattle.hc_pattern.specs.declared.set.ByteSet.{ByteSet}
use Rattle.hc_pat_lang.specs.declared.nodes.Node.{Node}
use Rattle.hc_pat_lang.specs.declared.nodes.Node.TheVariants.{Dead, End, Step, Marked, Fork}

-- The texts that a node takes: `End` the empty one; `Step` a byte of its set and then what another node
-- takes; `Marked` a marked byte; `Fork` what either of two nodes takes.
pub data Takes (nodes : List Node) : ℕ → List ℕ → Type 0 where
  at_end : {node : ℕ} → slice_get nodes node ≡ Some End → Takes nodes node []
  by_byte : {node to byte : ℕ} {set : ByteSet} {text : List ℕ}
      → slice_get nodes node ≡ Some (Step set to) → byte < 256 → has_byte set byte ≡ true
      → Takes nodes to text → Takes nodes node (byte ∷ text)
  by_marked : {node to byte : ℕ} {set : ByteSet} {text : List ℕ}
      → slice_get nodes node ≡ Some (Marked set to) → byte < 256 → has_byte set byte ≡ true
      → Takes nodes to text → Takes nodes node ((256 + byte) ∷ text)
  by_first : {node first second : ℕ} {text : List ℕ} → slice_get nodes node ≡ Some (Fork first second)
      → Takes nodes first text → Takes nodes node text
  by_second : {node first second : ℕ} {text : List ℕ} → slice_get nodes node ≡ Some (Fork first second)
      → Takes nodes second text → Takes nodes node text

-- The nodes that a node leads to have numbers below the count.
abbrev pub LeadsBelow : ℕ → Node → Type 0
LeadsBelow count Dead = Unit {0}
LeadsBelow count End = Unit {0}
LeadsBelow count (Step set to) = to < count
LeadsBelow count (Marked set to) = to < count
LeadsBelow count (Fork first second) = (first < count) × (second < count)

-- The first node takes nothing, the second the empty text alone, and each leads to nodes that there are.
pub record AreNodes (nodes : List Node) : Type 0 where
  pub dead : slice_get nodes 0 ≡ Some Dead
  pub end : slice_get nodes 1 ≡ Some End
  pub within : (i : ℕ) (node : Node) → slice_get nodes i ≡ Some node → LeadsBelow (length nodes) node

-- From one place on the later nodes are the same.
abbrev pub AgreesFrom : ℕ → List Node → List Node → Type 0
AgreesFrom from nodes later = (i : ℕ) (node : Node) → from ≤ i → slice_get nodes i ≡ Some node
    → slice_get later i ≡ Some node
