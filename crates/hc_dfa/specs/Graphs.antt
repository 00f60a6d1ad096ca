-- Graphs: a key leads to others by its choices, of which each may read a byte on the way.
use Rattle.std.specs.Prelude.{◌≡◌, ℕ, ◌<◌, ◌≤◌, ◌↔◌, IsTrue, List, [], ◌∷◌, length}
use Rattle.std.specs.Prelude.{slice_get}
use Rattle.std.specs.Prelude.{slice_index_or, Bool, true, false, Option, None, Some, Vec}
use Rattle.std.specs.declared.alloc.Global.{Global}
use Rattle.hc_dfa.specs.Automata.{Automaton, accepts}
use Rattle.hc_dfa.specs.Machines.{HasStep, PathToFinal}
use Rattle.hc_dfa.specs.Texts.{IsText}
use Rattle.hc_dfa.specs.declared.graphs.Choice.{Choice}
use Rattle.hc_dfa.specs.declared.graphs.Choice.TheVariants.{Byte, One, Other}
use Rattle.hc_dfa.specs.declared.graphs.Move.{Move}
use Rattle.hc_dfa.specs.declared.machine.Machine.{Machine}
use Rattle.hc_dfa.specs.declared.machine.Step.{Step}

-- The place of a choice in their order.
abbrev pub choice_number : Choice → ℕ
choice_number (Byte byte) = byte
choice_number One = 256
choice_number Other = 257

-- A choice by a byte is one by a number below 256.
abbrev pub IsChoice : Choice → Type 0
IsChoice (Byte byte) = byte < 256
IsChoice One = Unit {0}
IsChoice Other = Unit {0}

-- Where each choice leads from a key, if it leads anywhere, and which keys are final.
pub record GraphOf (K : Type 0) : Type 0 where
  pub moves : K → Choice → Option (Move K)
  pub is_final : K → Bool

-- The choice leads from the key to another, past this byte or past none.
pub record Leads {K : Type 0} (g : GraphOf K) (from : K) (byte : Option ℕ) (to : K) : Type 0 where
  pub choice : Choice
  pub is : IsChoice choice
  pub move : g.moves from choice ≡ Some (record { byte = byte; to = to })

-- The texts that are read on the way from a key to a final one.
pub data Way {K : Type 0} (g : GraphOf K) : K → List ℕ → Type 0 where
  ends : {key : K} → g.is_final key ≡ true → Way g key []
  passes : {key to : K} {text : List ℕ} → Leads g key None to → Way g to text → Way g key text
  reads : {key to : K} {byte : ℕ} {text : List ℕ} → Leads g key (Some byte) to → Way g to text
      → Way g key (byte ∷ text)

-- The machine reads the texts on the ways from the key.
abbrev pub ReadsWays : {K : Type 0} → GraphOf K → K → Machine → Type 0
ReadsWays {K} g first m = (text : List ℕ) → PathToFinal m 0 text ↔ Way g first text

-- The automaton accepts them, of all texts of bytes.
abbrev pub AcceptsWays : {K : Type 0} → GraphOf K → K → Automaton → Type 0
AcceptsWays {K} g first a = (text : List ℕ) → IsText text → IsTrue (accepts a text) ↔ Way g first text

abbrev pub AreKeys : {K : Type 0} → (K → Type 0) → List K → Type 0
AreKeys {K} IsKey keys = (i : ℕ) (key : K) → slice_get keys i ≡ Some key → IsKey key

-- The steps lead to the numbers of those keys to which the first choices of a key lead.
pub record AreSteps {K : Type 0} (g : GraphOf K) (keys : List K) (key : K) (choices : ℕ) (steps : List Step) :
    Type 0 where
  pub sound : (byte : Option ℕ) (number : ℕ) → HasStep steps byte number
      → (to : K) × (slice_get keys number ≡ Some to) × Leads g key byte to
  pub complete : (choice : Choice) (move : Move K) → IsChoice choice → choice_number choice < choices
      → g.moves key choice ≡ Some move
      → (number : ℕ) × (slice_get keys number ≡ Some move.to) × HasStep steps move.byte number

-- So many of the keys are states of the machine, with their steps and marks.
pub record Follows {K : Type 0} (IsKey : K → Type 0) (g : GraphOf K) (start : K) (keys : List K) (m : Machine)
    (count : ℕ) : Type 0 where
  pub first : slice_get keys 0 ≡ Some start
  pub proper : AreKeys IsKey keys
  pub within : count ≤ length keys
  pub states : length m.steps.items ≡ count
  pub marks : length m.finals.items ≡ count
  pub steps : (i : ℕ) (key : K) (steps : Vec Step Global) → slice_get keys i ≡ Some key
      → slice_get m.steps.items i ≡ Some steps → AreSteps g keys key 258 steps.items
  pub final : (i : ℕ) (key : K) → i < count → slice_get keys i ≡ Some key
      → slice_index_or m.finals.items i false ≡ g.is_final key
