-- Machines whose steps read a byte or nothing, and may lead from a state to many.
use Rattle.std.specs.Prelude.{◌≡◌, ℕ, ◌<◌, ◌≤◌, ◌⊎◌, ◌↔◌, IsTrue, List, [], ◌∷◌}
use Rattle.std.specs.Prelude.{length, slice_get}
use Rattle.std.specs.Prelude.{slice_index_or, true, false, Option, None, Some, Vec}
use Rattle.std.specs.List.{Contains}
use Rattle.std.specs.declared.alloc.Global.{Global}
use Rattle.hc_dfa.specs.Automata.{Automaton, accepts}
use Rattle.hc_dfa.specs.Texts.{IsText}
use Rattle.hc_dfa.specs.declared.machine.Bytes.{Bytes}
use Rattle.hc_dfa.specs.declared.machine.Machine.{Machine}
use Rattle.hc_dfa.specs.declared.machine.Step.{Step}

-- A step past nothing is one by no byte, and one past bytes is one by each of them.
abbrev pub Reads : Option Bytes → Option ℕ → Type 0
Reads None None = Unit {0}
Reads None (Some byte) = ⊥
Reads (Some bytes) None = ⊥
Reads (Some bytes) (Some byte) = (bytes.low ≤ byte) × (byte ≤ bytes.high)

-- The step leads to a state past this byte, or past none.
abbrev pub LeadsBy : Step → Option ℕ → ℕ → Type 0
LeadsBy step byte to = Reads step.bytes byte × (step.to ≡ to)

-- It leads so alone.
abbrev pub IsOneStep : Step → Option ℕ → ℕ → Type 0
IsOneStep step byte to = (b : Option ℕ) (j : ℕ) → LeadsBy step b j ↔ ((b ≡ byte) × (j ≡ to))

-- The second step leads as the first, and so.
abbrev pub Grows : Step → Option ℕ → ℕ → Step → Type 0
Grows step byte to more =
    (b : Option ℕ) (j : ℕ) → LeadsBy more b j ↔ (LeadsBy step b j ⊎ ((b ≡ byte) × (j ≡ to)))

-- A step of the list leads so.
abbrev pub HasStep : List Step → Option ℕ → ℕ → Type 0
HasStep steps byte to = (step : Step) × Contains steps step × LeadsBy step byte to

-- The steps of the second list lead as those of the first, and so.
abbrev pub AddsStep : List Step → List Step → Option ℕ → ℕ → Type 0
AddsStep steps more byte to =
    (b : Option ℕ) (j : ℕ) → HasStep more b j ↔ (HasStep steps b j ⊎ ((b ≡ byte) × (j ≡ to)))

-- A step of this state leads so.
abbrev pub Goes : Machine → ℕ → Option ℕ → ℕ → Type 0
Goes m from byte to = (steps : Vec Step Global) × (slice_get m.steps.items from ≡ Some steps)
    × HasStep steps.items byte to

abbrev pub IsFinal : Machine → ℕ → Type 0
IsFinal m state = slice_index_or m.finals.items state false ≡ true

-- There is a state, each has its mark, and each step leads to one.
pub record IsMachine (m : Machine) : Type 0 where
  pub some : 0 < length m.steps.items
  pub finals : length m.finals.items ≡ length m.steps.items
  pub within : (from : ℕ) (byte : Option ℕ) (to : ℕ) → Goes m from byte to → to < length m.steps.items

-- The text is read on a path from a state to a final one.
pub data PathToFinal (m : Machine) : ℕ → List ℕ → Type 0 where
  ends : {state : ℕ} → IsFinal m state → PathToFinal m state []
  passes : {state next : ℕ} {text : List ℕ} → Goes m state None next → PathToFinal m next text
      → PathToFinal m state text
  reads : {state next byte : ℕ} {text : List ℕ} → Goes m state (Some byte) next → PathToFinal m next text
      → PathToFinal m state (byte ∷ text)

-- The automaton accepts the texts on the paths from the first state.
abbrev pub AcceptsPaths : Machine → Automaton → Type 0
AcceptsPaths m a = (text : List ℕ) → IsText text → IsTrue (accepts a text) ↔ PathToFinal m 0 text
