-- Sets of a machine's states, as lists.
use Rattle.std.specs.Prelude.{◌≡◌, ℕ, ◌+◌, ◌<◌, ◌≤◌, ◌⊎◌, ◌↔◌, List, ◌++◌, length}
use Rattle.std.specs.Prelude.{slice_index}
use Rattle.std.specs.Prelude.{slice_index_or, Bool, true, false, Option, None, Some, Vec}
use Rattle.std.specs.List.{All, Contains}
use Rattle.std.specs.declared.alloc.Global.{Global}
use Rattle.hc_dfa.specs.Classings.{Classing, class_of}
use Rattle.hc_dfa.specs.Machines.{Goes}
use Rattle.hc_dfa.specs.declared.machine.Bytes.{Bytes}
use Rattle.hc_dfa.specs.declared.machine.Machine.{Machine}
use Rattle.hc_dfa.specs.declared.machine.Step.{Step}

-- The mark at the place is set.
abbrev pub Has : List Bool → ℕ → Type 0
Has marks place = slice_index_or marks place false ≡ true

-- The second list is the first with states behind it: with all that are done, and none that doesn't belong there.
pub record Gathers (Done Belongs : ℕ → Type 0) (set more : List ℕ) : Type 0 where
  pub rest : List ℕ
  pub extends : more ≡ set ++ rest
  pub sound : (state : ℕ) → Contains more state → Contains set state ⊎ Belongs state
  pub complete : (state : ℕ) → Done state → Contains more state

abbrev pub GathersAll : (ℕ → Type 0) → List ℕ → List ℕ → Type 0
GathersAll Belongs set more = Gathers Belongs Belongs set more

-- Each number is one of the machine's states.
abbrev pub AreStates : Machine → List ℕ → Type 0
AreStates m set = All (λ (state : ℕ). state < length m.steps.items) set

-- A state of the set leads to it, past this byte or past none.
abbrev pub LeadsTo : Machine → List ℕ → Option ℕ → ℕ → Type 0
LeadsTo m set byte to = (state : ℕ) × Contains set state × Goes m state byte to

-- The second set has exactly the states that a byte leads to from the first.
abbrev pub IsRead : Machine → List ℕ → ℕ → List ℕ → Type 0
IsRead m set byte to = (state : ℕ) → Contains to state ↔ LeadsTo m set (Some byte) state

-- No step past nothing leads out of the set.
abbrev pub IsClosed : Machine → List ℕ → Type 0
IsClosed m set = (state : ℕ) → LeadsTo m set None state → Contains set state

-- A path of steps past nothing.
pub data SilentPath (m : Machine) (from : ℕ) : ℕ → Type 0 where
  stays : SilentPath m from from
  goes_on : {state next : ℕ} → SilentPath m from state → Goes m state None next → SilentPath m from next

abbrev pub FollowsTo : Machine → List ℕ → ℕ → Type 0
FollowsTo m set to = (state : ℕ) × Contains set state × SilentPath m state to

-- The second set is the first with all that steps past nothing lead to.
pub record IsClosure (m : Machine) (set closure : List ℕ) : Type 0 where
  pub keeps : (state : ℕ) → Contains set state → Contains closure state
  pub sound : (state : ℕ) → Contains closure state → FollowsTo m set state
  pub closed : IsClosed m closure

-- A set that stands for a state of the automaton.
pub record IsProper (m : Machine) (set : List ℕ) : Type 0 where
  pub states : AreStates m set
  pub closed : IsClosed m set

-- A byte leads from the first set to the second.
pub record IsStep (m : Machine) (from : List ℕ) (byte : ℕ) (to : List ℕ) : Type 0 where
  pub read : List ℕ
  pub reads : IsRead m from byte read
  pub closes : IsClosure m read to

-- The answer tells whether one of the set is marked.
pub record IsMark (marks : List Bool) (set : List ℕ) (answer : Bool) : Type 0 where
  pub found : answer ≡ true → (state : ℕ) × Contains set state × Has marks state
  pub none : (state : ℕ) → Contains set state → Has marks state → answer ≡ true

-- The least of the bytes is marked, and what follows the greatest.
abbrev pub IsMarked : List Bool → Option Bytes → Type 0
IsMarked changes None = Unit {0}
IsMarked changes (Some bytes) = Has changes bytes.low × Has changes (bytes.high + 1)

-- The second list has the marks of the first and those of the steps.
pub record Marks (steps : List Step) (changes more : List Bool) : Type 0 where
  pub len : length more ≡ length changes
  pub keeps : (byte : ℕ) → Has changes byte → Has more byte
  pub each : (step : Step) → Contains steps step → IsMarked more step.bytes

-- It has those of each of these lists of steps.
pub record AreChanges (all : List (Vec Step Global)) (changes : List Bool) : Type 0 where
  pub len : length changes ≡ 257
  pub each : (steps : Vec Step Global) → Contains all steps → (step : Step) → Contains steps.items step
      → IsMarked changes step.bytes

-- Bytes with the same number have no change between them, nor at the later one.
abbrev pub ArePieces : List Bool → ℕ → List ℕ → Type 0
ArePieces changes count numbers =
    (b d k : ℕ) → d < count → slice_index numbers b ≡ slice_index numbers d → b < k → k ≤ d
    → Has changes k → ⊥

-- Bytes of one class lead from each set to the same sets.
abbrev pub TellsSteps : Machine → Classing → Type 0
TellsSteps m c =
    (from to : List ℕ) (b d : ℕ) → b < 256 → d < 256 → class_of c b ≡ class_of c d → IsStep m from b to
    → IsStep m from d to
