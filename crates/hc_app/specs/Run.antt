-- What a run of the program does. Our own choice.
use Rattle.std.specs.Prelude.{◌≡◌, ◌⊎◌, ℕ, List, Option, Some, None}
use Rattle.std.specs.Io.KnownBytes.{Appends}
use Rattle.hc_generate.specs.Sessions.{AppendsFront, Done, Status, Work, WriteFault}
use Rattle.hc_generate.specs.Summary.{IsSummary}
use Rattle.hc_words.specs.declared.words.Words.{Words}

-- The words are read, and ask to serve the source, with so many branches for a claim.
abbrev pub AsksToServe : ℕ → Option Words → Type 0
AsksToServe limit None = ⊥
AsksToServe limit (Some words) = (words.cells ≡ limit) × (words.generate ≡ None)

-- The words are read, and ask for the script of this seed.
abbrev pub AsksFor : ℕ → ℕ → Option Words → Type 0
AsksFor limit seed None = ⊥
AsksFor limit seed (Some words) = (words.cells ≡ limit) × (words.generate ≡ Some seed)

-- What was written: all of a line, or a front of it after a fault of the sink.
abbrev pub Writes : Status → Option (List ℕ) → Option (List ℕ) → List ℕ → Type 0
Writes WriteFault old new line = AppendsFront old new line
Writes status old new line = Appends old new line

-- A run that made the script of a seed: the summary was written, or a front of it after a fault of the sink.
pub record Generated (limit seed : ℕ) (written grown : Option (List ℕ)) (before after : Work) (status : Status) : Type
    0 where
  pub line : List ℕ
  pub told : IsSummary limit seed line before after
  pub writes : Writes status written grown line
  pub ends : (status ≡ Done) ⊎ (status ≡ WriteFault)
