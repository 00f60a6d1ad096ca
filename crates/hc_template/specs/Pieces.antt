-- Pieces beside each other.
use Rattle.std.specs.Prelude.{ℕ, List, [], ◌∷◌}
use Rattle.hc_model.specs.declared.template.Piece.{Piece}
use Rattle.hc_model.specs.declared.template.Piece.TheVariants.{Bytes, CondGroup, Group, Lookup', Var}

-- A byte before pieces: bytes that stand beside each other are one piece.
abbrev pub with_byte : ℕ → List Piece → List Piece
with_byte b [] = Bytes (b ∷ []) ∷ []
with_byte b (Bytes bytes ∷ pieces) = Bytes (b ∷ bytes) ∷ pieces
with_byte b (Group number ∷ pieces) = Bytes (b ∷ []) ∷ Group number ∷ pieces
with_byte b (CondGroup number ∷ pieces) = Bytes (b ∷ []) ∷ CondGroup number ∷ pieces
with_byte b (Var var ∷ pieces) = Bytes (b ∷ []) ∷ Var var ∷ pieces
with_byte b (Lookup' map key keys fallback fallbacks ∷ pieces) =
    Bytes (b ∷ []) ∷ Lookup' map key keys fallback fallbacks ∷ pieces
