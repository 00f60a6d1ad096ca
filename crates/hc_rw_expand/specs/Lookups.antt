-- Templates with look-ups, and what they look at.
-- Apache manual, mod_rewrite, RewriteMap. A look-up whose key has no value gives its fallback.
use Rattle.std.specs.Prelude.{◌≡◌, ℕ, List, [], ◌∷◌, ◌++◌, Option, Some, None, unwrap_or}
use Rattle.std.specs.Option.{option_and_then}
use Rattle.std.specs.List.{flat_map}
use Rattle.hc_model.specs.declared.read.Read.TheVariants.{TextOf}
use Rattle.hc_model.specs.declared.template.Piece.{Piece, out-Piece}
use Rattle.hc_model.specs.declared.template.Piece.TheOpen.{Piece-F, Lookup}
use Rattle.hc_steps.specs.Step.{Shown, Step, leaves, text_at, ◌>>=◌}
use Rattle.hc_template.specs.Filled.{Filling, filled, filled_piece}

-- ---- what look-ups give

-- What a map gives for a key, by the map's name.
abbrev pub Values : Type 0
Values = List ℕ → List ℕ → Option (List ℕ)

-- The keys and fallbacks of look-ups have none themselves.
abbrev pub looked_up : Values → Filling → List ℕ → List Piece → List Piece → List ℕ
looked_up values filling name key fallback =
    unwrap_or (values name (filled filling key)) (filled filling fallback)

abbrev pub open_with : Values → Filling → Piece → Piece-F Piece → List ℕ
open_with values filling piece (Lookup name key fallback) = looked_up values filling name key fallback
open_with values filling piece other = filled_piece filling piece

abbrev pub piece_with : Values → Filling → Piece → List ℕ
piece_with values filling piece = open_with values filling piece (out-Piece piece)

-- A template with its parts filled in. They are not escaped.
abbrev pub filled_with : Values → Filling → List Piece → List ℕ
filled_with values filling pieces = flat_map (piece_with values filling) pieces

-- ---- what they look at

-- The file in which the text of a map is, and what a map gives for a key by the text that is there.
pub record Looks : Type 0 where
  pub file : List ℕ → Option (List ℕ)
  pub value : List ℕ → List ℕ → Option (List ℕ) → Option (List ℕ)

-- A map without a file looks at nothing.
unfoldable pub text_of_map : {E : Type 0} → Option (List ℕ) → Step E (Option (List ℕ))
text_of_map None = leaves None
text_of_map (Some path) = text_at path >>= λ found. leaves found.text

unfoldable pub valued : {E : Type 0} → Looks → List ℕ → List ℕ → Step E (Option (List ℕ))
valued looks name key = text_of_map (looks.file name) >>= λ text. leaves (looks.value name key text)

abbrev pub open_expanded : {E : Type 0} → Looks → Filling → Piece → Piece-F Piece → Step E (List ℕ)
open_expanded looks filling piece (Lookup name key fallback) =
    valued looks name (filled filling key) >>= λ value. leaves (unwrap_or value (filled filling fallback))
open_expanded looks filling piece other = leaves (filled_piece filling piece)

-- Piece by piece, each look-up with what it looks at.
unfoldable pub expanded : {E : Type 0} → Looks → Filling → List Piece → Step E (List ℕ)
expanded looks filling [] = leaves []
expanded looks filling (piece ∷ pieces) = do
  front ← open_expanded looks filling piece (out-Piece piece)
  rest ← expanded looks filling pieces
  leaves (front ++ rest)

-- ---- maps in a world

abbrev pub text_shown : Shown → Option (List ℕ) → Option (List ℕ)
text_shown shown path = option_and_then (λ path. (shown (TextOf path)).text) path

-- The files and values of maps are these in a world.
pub record Stands (files : List ℕ → Option (List ℕ)) (values : Values) (looks : Looks) (shown : Shown) : Type
    0 where
  pub same_files : (name : List ℕ) → files name ≡ looks.file name
  pub same_values : (name key : List ℕ)
      → values name key ≡ looks.value name key (text_shown shown (looks.file name))
