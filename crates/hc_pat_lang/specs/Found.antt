-- The texts that a pattern is found in, and what its groups may hold.
use Rattle.std.specs.Prelude.{ℕ, ◌-◌, ◌<◌, ◌≤◌, IsTrue, List, [], length, take, drop}
use Rattle.std.specs.List.{Contains}
use Rattle.hc_base.specs.declared.place.Span.{Span}
use Rattle.hc_dfa.specs.Texts.{IsText, TextSet}
use Rattle.hc_pattern.specs.Pattern.{Pattern}
use Rattle.hc_ways.specs.Ways.{Way}
use Rattle.hc_ways.specs.Kept.{Turns, all_ways}

-- The pattern has a way at some place of the text.
pub record IsFound (pattern : Pattern) (text : List ℕ) : Type 0 where
  pub from : ℕ
  pub within : from ≤ length text
  pub way : Way Turns
  pub among : Contains (all_ways text pattern from []) way

-- The bytes of a text that a span takes.
abbrev pub piece : List ℕ → Span → List ℕ
piece text span = take (span.end - span.start) (drop span.start text)

-- What a group may hold on a way that begins at a place: group 0 the whole way; any other group what one of
-- its turns takes, be it the last one or not, and the empty text where it has no turn.
pub data MayHold (text : List ℕ) (from : ℕ) (way : Way Turns) : ℕ → List ℕ → Type 0 where
  whole : MayHold text from way 0 (piece text (record { start = from; end = way.end }))
  turn : {number : ℕ} {span : Span} → 0 < number → Contains way.held (number, span)
      → MayHold text from way number (piece text span)
  unset : {number : ℕ} → 0 < number → ((span : Span) → Contains way.held (number, span) → ⊥)
      → MayHold text from way number []

-- The group may hold the piece on some way of the pattern in some text of the set.
pub record IsGroupText (pattern : Pattern) (set : TextSet) (number : ℕ) (held : List ℕ) : Type 0 where
  pub text : List ℕ
  pub bytes : IsText text
  pub member : IsTrue (set text)
  pub from : ℕ
  pub within : from ≤ length text
  pub way : Way Turns
  pub among : Contains (all_ways text pattern from []) way
  pub holds : MayHold text from way number held
