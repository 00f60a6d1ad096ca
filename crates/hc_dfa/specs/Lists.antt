-- The graph of the texts of a list: a key is a text's number and a place in it.
use Rattle.std.specs.Prelude.{ℕ, ◌+◌, ◌==◌, ◌&&◌, nat_lt, nat_le, List, [], length}
use Rattle.std.specs.Prelude.{slice_index_or, Bool, if◌then◌else◌, Option, None, Some}
use Rattle.hc_dfa.specs.Graphs.{GraphOf}
use Rattle.hc_dfa.specs.declared.graphs.Choice.{Choice}
use Rattle.hc_dfa.specs.declared.graphs.Choice.TheVariants.{Byte, One, Other}
use Rattle.hc_dfa.specs.declared.graphs.Move.{Move}

abbrev pub text_at : List (List ℕ) → ℕ → List ℕ
text_at texts number = slice_index_or texts number []

abbrev pub has_byte : List (List ℕ) → (ℕ × ℕ) → ℕ → Bool
has_byte texts spot byte = nat_lt spot.1 (length (text_at texts spot.0))
    && (slice_index_or (text_at texts spot.0) spot.1 0 == byte)

-- The byte at the place leads on in its text, and from the begin of a text another way leads to the next.
abbrev pub list_moves : List (List ℕ) → (ℕ × ℕ) → Choice → Option (Move (ℕ × ℕ))
list_moves texts spot (Byte byte) = if has_byte texts spot byte
    then Some (record { byte = Some byte; to = (spot.0, spot.1 + 1) }) else None
list_moves texts spot One = if ((spot.1 == 0) && nat_lt spot.0 (length texts))
    then Some (record { byte = None; to = (spot.0 + 1, 0) }) else None
list_moves texts spot Other = None

abbrev pub list_graph : List (List ℕ) → GraphOf (ℕ × ℕ)
list_graph texts = record {
  moves = list_moves texts;
  is_final = λ spot. nat_lt spot.0 (length texts) && nat_le (length (text_at texts spot.0)) spot.1;
}
