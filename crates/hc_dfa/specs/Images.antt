-- The graph of the images of an automaton's texts.
use Rattle.std.specs.Prelude.{ℕ, List, slice_index, Option, None, Some}
use Rattle.hc_dfa.specs.Automata.{Automaton, next_state, is_final}
use Rattle.hc_dfa.specs.Graphs.{GraphOf}
use Rattle.hc_dfa.specs.declared.graphs.Choice.{Choice}
use Rattle.hc_dfa.specs.declared.graphs.Choice.TheVariants.{Byte, One, Other}
use Rattle.hc_dfa.specs.declared.graphs.Move.{Move}

-- A byte leads on as in the automaton, and its entry in the table is read.
abbrev pub image_moves : Automaton → List ℕ → ℕ → Choice → Option (Move ℕ)
image_moves a table state (Byte byte) =
    Some (record { byte = Some (slice_index table byte); to = next_state a state byte })
image_moves a table state One = None
image_moves a table state Other = None

abbrev pub image_graph : Automaton → List ℕ → GraphOf ℕ
image_graph a table = record { moves = image_moves a table; is_final = is_final a }
