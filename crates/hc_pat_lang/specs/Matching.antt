-- The machine of steps of nodes, and the nodes that look for a pattern.
use Rattle.std.specs.Prelude.{◌≡◌, ℕ, ◌+◌, ◌<◌, List, [], ◌∷◌}
use Rattle.std.specs.Prelude.{◌++◌, length, slice_set, true}
use Rattle.hc_pattern.specs.Bits.{has_byte}
use Rattle.hc_pattern.specs.declared.set.ByteSet.{ByteSet}
use Rattle.hc_pat_lang.specs.declared.gates.Gate.{Gate}
use Rattle.hc_pat_lang.specs.declared.nodes.Node.{Node}
use Rattle.hc_pat_lang.specs.declared.nodes.Node.TheVariants.{Dead, End, Step, Fork}

-- Each byte is in the set.
abbrev pub IsFull : ByteSet → Type 0
IsFull set = (byte : ℕ) → byte < 256 → has_byte set byte ≡ true

-- The nodes that there are from the start on: the third takes every text of bytes of the set.
abbrev pub first_nodes : ByteSet → List Node
first_nodes set = Dead ∷ End ∷ Fork 1 3 ∷ Step set 2 ∷ []

-- Nodes that look for what the entries take, at any place: the first is for places behind some bytes, the second
-- passes a byte, and the last, where they begin, is for the text's start.
pub record LooksFor (old new : List Node) (set : ByteSet) (entries : Gate) (start : ℕ) : Type 0 where
  pub nodes : new ≡ slice_set ((old ++ Dead ∷ []) ++ Step set (length old) ∷ []) (length old)
      (Fork entries.still.state (length old + 1))
      ++ Fork entries.first.state (length old + 1) ∷ []
  pub is : start ≡ length old + 2
