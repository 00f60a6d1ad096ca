-- What the nodes of a pattern take, by the ways of the pattern.
use Rattle.std.specs.Prelude.{◌≡◌, ℕ, ◌<◌, ◌≤◌, ◌==◌, ◌||◌, ◌⊎◌, ◌↔◌, nat_lt}
use Rattle.std.specs.Prelude.{Bool, true, List, [], ◌∷◌, length, drop, if◌then◌else◌, slice_get, Some}
use Rattle.std.specs.List.{AllByRecursion}
use Rattle.hc_dfa.specs.Explored.{Extends}
use Rattle.hc_ways.specs.Ways.{Way, Ways}
use Rattle.hc_ways.specs.Kept.{Turns}
use Rattle.hc_pat_lang.specs.Nodes.{AgreesFrom, AreNodes, Takes}
use Rattle.hc_pat_lang.specs.declared.gates.Gate.{Gate}
use Rattle.hc_pat_lang.specs.declared.gates.Point.{Point}
use Rattle.hc_pat_lang.specs.declared.chosen.Turns.{Turns as Both}
use Rattle.hc_pat_lang.specs.declared.nodes.Node.{Node}
use Rattle.hc_pat_lang.specs.declared.nodes.Node.TheVariants.{Fork}

-- It holds of some element.
abbrev pub Exists : {A : Type 0} → (A → Type 0) → List A → Type 0
Exists P [] = ⊥
Exists P (x ∷ xs) = P x ⊎ Exists P xs

-- The point of a gate for a place of a text, where the turn of a repeat that is going on has moved or not.
abbrev pub point_at : Gate → Bool → ℕ → Point
point_at gate moved at = if moved then gate.moved else (if (at == 0) then gate.first else gate.still)

-- What is left of the text is what the gate's node takes.
abbrev pub TakesRest : List Node → List ℕ → Gate → Bool → ℕ → Type 0
TakesRest nodes text gate moved at = Takes nodes (point_at gate moved at).state (drop at text)

-- The way leads to where the gate's node takes the rest of the text.
abbrev pub LeadsTo : List Node → List ℕ → Gate → Bool → ℕ → Way Turns → Type 0
LeadsTo nodes text exits moved at way = TakesRest nodes text exits (moved || nat_lt at way.end) way.end

-- At each place, the entries take the rest of the text exactly where some way leads to where the exits do.
pub record Serves (nodes : List Node) (text : List ℕ) (ways : Ways Turns) (exits entries : Gate) : Type 0 where
  pub ordered : (at : ℕ) (held : Turns) → at ≤ length text
      → AllByRecursion (λ way. (at ≤ way.end) × (way.end ≤ length text)) (ways at held)
  pub leads : (at : ℕ) (held : Turns) (moved : Bool) → at ≤ length text → (moved ≡ true → 0 < at)
      → TakesRest nodes text entries moved at ↔ Exists (LeadsTo nodes text exits moved at) (ways at held)

-- Whether the point's node takes the empty text is known.
pub record KnowsEnd (nodes : List Node) (point : Point) : Type 0 where
  pub ends : point.ends ≡ true → Takes nodes point.state []
  pub only : Takes nodes point.state [] → point.ends ≡ true

-- Where it is known of the exit, it is known of the entry, which takes the empty text only where the exit does.
pub record KeepsEnd (nodes : List Node) (exit entry : Point) : Type 0 where
  pub knows : KnowsEnd nodes exit → KnowsEnd nodes entry
  pub back : KnowsEnd nodes exit → Takes nodes entry.state [] → Takes nodes exit.state []

-- It is known of each point, and what is taken where the turn has not moved is taken where it has.
pub record KnowsEnds (nodes : List Node) (gate : Gate) : Type 0 where
  pub first : KnowsEnd nodes gate.first
  pub still : KnowsEnd nodes gate.still
  pub moved : KnowsEnd nodes gate.moved
  pub widens : (text : List ℕ) → Takes nodes gate.still.state text → Takes nodes gate.moved.state text

pub record KeepsEnds (nodes : List Node) (exits entries : Gate) : Type 0 where
  pub first : KeepsEnd nodes exits.first entries.first
  pub still : KeepsEnd nodes exits.still entries.still
  pub moved : KnowsEnds nodes exits → KeepsEnd nodes exits.moved entries.moved

-- The gate's points are nodes below the count.
pub record IsBelow (count : ℕ) (gate : Gate) : Type 0 where
  pub first : gate.first.state < count
  pub still : gate.still.state < count
  pub moved : gate.moved.state < count

-- These nodes are there, and the gate's points are among them.
pub record IsReady (nodes : List Node) (gate : Gate) : Type 0 where
  pub are : AreNodes nodes
  pub below : IsBelow (length nodes) gate

-- The new nodes lead from the entries to the exits by the ways. Nodes that are added later change nothing.
pub record IsFragment (ways : List ℕ → Ways Turns) (exits : Gate) (old new : List Node) (entries : Gate) : Type
    0 where
  pub kept : Extends old new
  pub longer : length old ≤ length new
  pub ready : IsReady new entries
  pub ends : (later : List Node) → AreNodes later → AgreesFrom (length old) new later
      → KeepsEnds later exits entries
  pub serves : (later : List Node) → AreNodes later → AgreesFrom (length old) new later → KnowsEnds later exits
      → (text : List ℕ) → Serves later text (ways text) exits entries

-- A turn of the body that leads back to where it begins again, once it has moved.
pub record IsLooped (body : List ℕ → Ways Turns) (exits : Gate) (old new : List Node) (turn : Gate) : Type 0 where
  pub again : Point
  pub kept : Extends old new
  pub longer : length old ≤ length new
  pub ready : IsReady new turn
  pub ends : (later : List Node) → AreNodes later → AgreesFrom (length old) new later → KeepsEnds later exits turn
  pub loop : (later : List Node) → AgreesFrom (length old) new later → slice_get later again.state
      ≡ Some (Fork exits.moved.state turn.still.state)
  pub serves : (later : List Node) → AreNodes later → AgreesFrom (length old) new later → KnowsEnds later exits
      → (text : List ℕ) → Serves later text (body text) (record exits { moved = again }) turn

-- Both gates of turns lead to the exits, the one by all ways and the other by those with a chosen turn.
pub record AreTurns (all chosen : List ℕ → Ways Turns) (exits : Gate) (old new : List Node) (turns : Both) : Type
    0 where
  pub all_ways : IsFragment all exits old new turns.all
  pub chosen_ways : IsFragment chosen exits old new turns.chosen
