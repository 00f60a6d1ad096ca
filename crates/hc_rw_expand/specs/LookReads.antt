-- What the look-ups of a template look at, one after another.
use Rattle.std.specs.Prelude.{ℕ, List, [], ◌∷◌, Option, Some, None}
use Rattle.std.specs.List.{flat_map}
use Rattle.hc_model.specs.declared.read.Read.{Read}
use Rattle.hc_model.specs.declared.read.Read.TheVariants.{TextOf}
use Rattle.hc_model.specs.declared.template.Piece.{Piece, out-Piece}
use Rattle.hc_model.specs.declared.template.Piece.TheOpen.{Piece-F, Lookup}

abbrev pub file_reads : Option (List ℕ) → List Read
file_reads None = []
file_reads (Some path) = TextOf path ∷ []

abbrev pub open_reads : (List ℕ → Option (List ℕ)) → Piece-F Piece → List Read
open_reads files (Lookup name key fallback) = file_reads (files name)
open_reads files other = []

abbrev pub piece_reads : (List ℕ → Option (List ℕ)) → Piece → List Read
piece_reads files piece = open_reads files (out-Piece piece)

abbrev pub reads_in : (List ℕ → Option (List ℕ)) → List Piece → List Read
reads_in files pieces = flat_map (piece_reads files) pieces
