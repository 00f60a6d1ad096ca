-- What ties the sets of a pattern to its first match.
use Rattle.std.specs.Prelude.{◌≡◌, ℕ, ◌↔◌, IsSome, IsTrue, List, [], Option, None, Some}
use Rattle.hc_base.specs.declared.place.Span.{Span}
use Rattle.hc_dfa.specs.Texts.{IsText, TextSet}
use Rattle.hc_pattern.specs.Pattern.{Pattern}
use Rattle.hc_ways.specs.Kept.{Held, first_match}
use Rattle.hc_pat_lang.specs.Found.{IsFound, IsGroupText, piece}

-- A text is found exactly where it has a first match.
abbrev pub IsFoundByMatch : List ℕ → Pattern → Type 0
IsFoundByMatch text pattern = IsFound pattern text ↔ IsSome (first_match text pattern)

-- The text that a group holds: of an unset group the empty text.
abbrev pub held_text : List ℕ → Option Span → List ℕ
held_text text None = []
held_text text (Some span) = piece text span

-- What the groups hold after the first match of a text of the set, they may hold.
abbrev pub CoversMatch : Pattern → TextSet → List ℕ → Type 0
CoversMatch pattern set text = (held : Held) (number : ℕ) → IsText text → IsTrue (set text)
    → first_match text pattern ≡ Some held
    → IsGroupText pattern set number (held_text text (held number))
