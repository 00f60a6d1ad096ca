-- The graphs of what is made of sets: where each choice leads from a key, and which keys are final.
use Rattle.std.specs.Prelude.{◌≡◌, ℕ, ◌+◌, ◌-◌, ◌<◌, ◌&&◌, ◌↔◌, nat_eq, nat_lt, IsTrue}
use Rattle.std.specs.Prelude.{List, [], ◌∷◌, length, slice_get}
use Rattle.std.specs.Prelude.{if◌then◌else◌, map, Bool, true, false, Option, None, Some}
use Rattle.hc_base.specs.Paths.{is_slash}
use Rattle.hc_dfa.specs.Automata.{Automaton, accepts, states, next_state, is_final}
use Rattle.hc_dfa.specs.Graphs.{GraphOf}
use Rattle.hc_dfa.specs.Texts.{IsText, TextSet}
use Rattle.hc_dfa.specs.declared.graphs.Choice.{Choice}
use Rattle.hc_dfa.specs.declared.graphs.Choice.TheVariants.{Byte, One, Other}
use Rattle.hc_dfa.specs.declared.graphs.Move.{Move}
use Rattle.hc_pattern.specs.Bits.{has_byte}
use Rattle.hc_pattern.specs.declared.set.ByteSet.{ByteSet}
use Rattle.hc_pat_lang.specs.Nodes.{Takes}
use Rattle.hc_pat_lang.specs.declared.joined.Stage.{Stage}
use Rattle.hc_pat_lang.specs.declared.nodes.Node.{Node}
use Rattle.hc_pat_lang.specs.declared.nodes.Node.TheVariants.{Dead, End, Step, Marked, Fork}
use Rattle.hc_pat_lang.specs.declared.quotients.Along.{Along}
use Rattle.hc_pat_lang.specs.declared.quotients.Along.TheVariants.{Alone, Beside}
use Rattle.hc_pat_lang.specs.declared.slashes.Behind.{Behind}
use Rattle.hc_pat_lang.specs.declared.tails.Cut.{Cut}
use Rattle.std.specs.Option.{is_none}

-- To a key past a byte that is read, and past none.
abbrev pub reading : {K : Type 0} → ℕ → K → Option (Move K)
reading {K} byte to = Some (record { byte = Some byte; to = to })

abbrev pub passing : {K : Type 0} → K → Option (Move K)
passing {K} to = Some (record { byte = None; to = to })

-- ---- a text of each automaton, one behind the other

abbrev pub IsStateOf : Option Automaton → ℕ → Type 0
IsStateOf None state = Unit {0}
IsStateOf (Some a) state = state < states a

-- A state of the automaton with the number, or the end behind the last one.
abbrev pub IsStage : List Automaton → Stage → Type 0
IsStage sets stage = IsStateOf (slice_get sets stage.set) stage.state

-- The automaton leads on, and where it is final to the start of the next one.
abbrev pub stage_moves : Option Automaton → Stage → Choice → Option (Move Stage)
stage_moves None stage choice = None
stage_moves (Some a) stage (Byte byte) =
    reading byte (record { set = stage.set; state = next_state a stage.state byte })
stage_moves (Some a) stage One =
    if is_final a stage.state then passing (record { set = stage.set + 1; state = 0 }) else None
stage_moves (Some a) stage Other = None

abbrev pub joined_graph : List Automaton → GraphOf Stage
joined_graph sets =
    record {
      moves = λ stage. stage_moves (slice_get sets stage.set) stage;
      is_final = λ stage. is_none (slice_get sets stage.set);
    }

-- ---- what is left of a text of a set behind or before a text of another one

abbrev pub IsAlong : Automaton → Automaton → Along → Type 0
IsAlong set by (Alone state) = state < states set
IsAlong set by (Beside state other) = (state < states set) × (other < states by)

-- Both automata pass a text. Where it is one of the other set, what is behind it is read.
abbrev pub rest_moves : Automaton → Automaton → Along → Choice → Option (Move Along)
rest_moves set by (Beside state other) (Byte byte) = passing
    (Beside (next_state set state byte) (next_state by other byte))
rest_moves set by (Beside state other) One = if is_final by other then passing (Alone state) else None
rest_moves set by (Beside state other) Other = None
rest_moves set by (Alone state) (Byte byte) = reading byte (Alone (next_state set state byte))
rest_moves set by (Alone state) One = None
rest_moves set by (Alone state) Other = None

abbrev pub rest_final : Automaton → Along → Bool
rest_final set (Alone state) = is_final set state
rest_final set (Beside state other) = false

abbrev pub rest_graph : Automaton → Automaton → GraphOf Along
rest_graph set by = record { moves = rest_moves set by; is_final = rest_final set }

-- What stands in front is read. Behind it both automata pass a text.
abbrev pub front_moves : Automaton → Automaton → Along → Choice → Option (Move Along)
front_moves set by (Alone state) (Byte byte) = reading byte (Alone (next_state set state byte))
front_moves set by (Alone state) One = passing (Beside state 0)
front_moves set by (Alone state) Other = None
front_moves set by (Beside state other) (Byte byte) = passing
    (Beside (next_state set state byte) (next_state by other byte))
front_moves set by (Beside state other) One = None
front_moves set by (Beside state other) Other = None

abbrev pub front_final : Automaton → Automaton → Along → Bool
front_final set by (Alone state) = false
front_final set by (Beside state other) = is_final set state && is_final by other

abbrev pub front_graph : Automaton → Automaton → GraphOf Along
front_graph set by = record { moves = front_moves set by; is_final = front_final set by }

-- ---- what is left of a text of a set without its first bytes

-- What is read of a byte where so many are still passed over.
abbrev pub read_past : ℕ → ℕ → Option ℕ
read_past left byte = if nat_eq left 0 then Some byte else None

abbrev pub tail_moves : Automaton → Cut → Choice → Option (Move Cut)
tail_moves a cut (Byte byte) =
    Some (record {
      byte = read_past cut.left byte;
      to = record { left = cut.left - 1; state = next_state a cut.state byte };
    })
tail_moves a cut One = None
tail_moves a cut Other = None

abbrev pub tail_graph : Automaton → GraphOf Cut
tail_graph a = record { moves = tail_moves a; is_final = λ cut. is_final a cut.state }

-- ---- slashes

-- Each byte is read but a slash behind a slash.
abbrev pub merged_moves : Automaton → Behind → Choice → Option (Move Behind)
merged_moves a behind (Byte byte) =
    Some (record {
      byte = if (behind.slash && is_slash byte) then None else Some byte;
      to = record { state = next_state a behind.state byte; slash = is_slash byte };
    })
merged_moves a behind One = None
merged_moves a behind Other = None

abbrev pub merged_graph : Automaton → GraphOf Behind
merged_graph a = record { moves = merged_moves a; is_final = λ behind. is_final a behind.state }

-- ---- nodes

-- To a node by each byte of the set.
abbrev pub by_class : {K : Type 0} → (ℕ → Option (Move K)) → ByteSet → Choice → Option (Move K)
by_class {K} lead set (Byte byte) = if has_byte set byte then lead byte else None
by_class {K} lead set One = None
by_class {K} lead set Other = None

abbrev pub by_fork : {K : Type 0} → K → K → Choice → Option (Move K)
by_fork {K} first second (Byte byte) = None
by_fork {K} first second One = passing first
by_fork {K} first second Other = passing second

-- A byte of a node is read, and neither node of a fork reads one.
abbrev pub node_moves : Option Node → Choice → Option (Move ℕ)
node_moves None choice = None
node_moves (Some Dead) choice = None
node_moves (Some End) choice = None
node_moves (Some (Step set to)) choice = by_class (λ byte. reading byte to) set choice
node_moves (Some (Marked set to)) choice = None
node_moves (Some (Fork first second)) choice = by_fork first second choice

abbrev pub is_end : Option Node → Bool
is_end None = false
is_end (Some Dead) = false
is_end (Some End) = true
is_end (Some (Step set to)) = false
is_end (Some (Marked set to)) = false
is_end (Some (Fork first second)) = false

abbrev pub node_graph : List Node → GraphOf ℕ
node_graph nodes =
    record { moves = λ node. node_moves (slice_get nodes node); is_final = λ node. is_end (slice_get nodes node) }

-- The automaton accepts the texts that the node takes.
abbrev pub ReadsNode : List Node → ℕ → Automaton → Type 0
ReadsNode nodes node a = (text : List ℕ) → IsText text → IsTrue (accepts a text) ↔ Takes nodes node text

-- ---- what is marked in the texts of a node, where the texts without marks are in a set

-- The byte of a letter, marked or not.
abbrev pub byte_of : ℕ → ℕ
byte_of letter = if nat_lt letter 256 then letter else letter - 256

-- The text without marks.
abbrev pub unmarked : List ℕ → List ℕ
unmarked text = map byte_of text

-- What is marked in the text.
abbrev pub marks : List ℕ → List ℕ
marks [] = []
marks (letter ∷ text) = if nat_lt letter 256 then marks text else (letter - 256) ∷ marks text

-- The piece is what is marked in a text of the node, which is in the set without the marks.
pub record IsMarked (nodes : List Node) (node : ℕ) (set : TextSet) (piece : List ℕ) : Type 0 where
  pub text : List ℕ
  pub taken : Takes nodes node text
  pub member : IsTrue (set (unmarked text))
  pub marked : marks text ≡ piece

-- The automaton accepts these pieces.
abbrev pub ReadsMarked : List Node → ℕ → TextSet → Automaton → Type 0
ReadsMarked nodes node set a = (text : List ℕ) → IsText text
    → IsTrue (accepts a text) ↔ IsMarked nodes node set text

-- A place: a node, and a state of the set's automaton.
abbrev pub Place : Type 0
Place = ℕ × ℕ

abbrev pub IsPlace : List Node → Automaton → Place → Type 0
IsPlace nodes a place = (place.0 < length nodes) × (place.1 < states a)

-- The automaton goes along. A marked byte is read, and one without a mark is passed.
abbrev pub marked_moves : Automaton → ℕ → Option Node → Choice → Option (Move Place)
marked_moves a state None choice = None
marked_moves a state (Some Dead) choice = None
marked_moves a state (Some End) choice = None
marked_moves a state (Some (Step set to)) choice = by_class (λ byte. passing (to, next_state a state byte)) set choice
marked_moves a state (Some (Marked set to)) choice =
    by_class (λ byte. reading byte (to, next_state a state byte)) set choice
marked_moves a state (Some (Fork first second)) choice = by_fork (first, state) (second, state) choice

abbrev pub marked_graph : List Node → Automaton → GraphOf Place
marked_graph nodes a =
    record {
      moves = λ place. marked_moves a place.1 (slice_get nodes place.0);
      is_final = λ place. is_end (slice_get nodes place.0) && is_final a place.1;
    }
