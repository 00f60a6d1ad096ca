-- What a template stands for, once its parts are filled in.
-- Apache manual, mod_rewrite; mod_alias, AliasMatch, RedirectMatch. The parts are not escaped; our own choice.
use Rattle.std.specs.Prelude.{ℕ, List, []}
use Rattle.std.specs.List.{flat_map}
use Rattle.hc_model.specs.declared.template.Piece.{Piece}
use Rattle.hc_model.specs.declared.template.Piece.TheVariants as piece
use Rattle.hc_model.specs.declared.template.Var.{Var}

-- What groups, groups of the last condition and variables stand for. Look-ups are filled in before.
pub record Filling : Type 0 where
  pub group : ℕ → List ℕ
  pub condition : ℕ → List ℕ
  pub variable : Var → List ℕ

abbrev pub filled_piece : Filling → Piece → List ℕ
filled_piece filling (piece.Bytes bytes) = bytes
filled_piece filling (piece.Group number) = filling.group number
filled_piece filling (piece.CondGroup number) = filling.condition number
filled_piece filling (piece.Var var) = filling.variable var
filled_piece filling (piece.Lookup' map key keys fallback fallbacks) = []

abbrev pub filled : Filling → List Piece → List ℕ
filled filling pieces = flat_map (filled_piece filling) pieces
