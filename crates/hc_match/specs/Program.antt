-- What the steps of a program mean, as ways.
use Rattle.std.specs.Prelude.{◌≡◌, ℕ, ◌<◌, ◌≤◌, ◌==◌, if◌then◌else◌, Bool, List, []}
use Rattle.std.specs.Prelude.{◌∷◌, length, Option, Some, None, slice_get, ⊤}
use Rattle.hc_pattern.specs.Bits.{has_byte}
use Rattle.hc_pattern.specs.Pattern.{Pattern}
use Rattle.hc_ways.specs.Kept.{Held, nothing_held, with_group}
use Rattle.hc_ways.specs.Ways.{Keeping, Ways, behind, either, none, step_where, stop, stop_where, ways}
use Rattle.hc_match.specs.declared.program.Step.{Step}
use Rattle.hc_match.specs.declared.program.Step.TheVariants.{Done, Byte, Class, Start, Finish, Open, Close, Either}

-- What is kept on a way: where the groups that are open began, the innermost first, and what the
-- groups hold.
pub record Kept : Type 0 where
  pub starts : List ℕ
  pub held : Held

-- No group is open, and none holds anything.
abbrev pub nothing_kept : Kept
nothing_kept = record { starts = []; held = nothing_held }

-- What a group spans is held by it.
abbrev pub keeping_held : Keeping Kept
keeping_held number span kept = record { starts = kept.starts; held = with_group number span kept.held }

-- The ways of a pattern, whatever groups are open around it.
abbrev pub kept_ways : List ℕ → Pattern → Ways Kept
kept_ways = ways keeping_held

-- A group begins at the place.
abbrev pub opened : ℕ → Kept → Kept
opened at kept = record { starts = at ∷ kept.starts; held = kept.held }

-- The same by the starts: the group spans from the first of them on.
abbrev pub closed_from : ℕ → ℕ → List ℕ → Held → Kept
closed_from number at [] held = record { starts = []; held = with_group number (record { start = 0; end = at }) held }
closed_from number at (from ∷ starts) held =
    record { starts = starts; held = with_group number (record { start = from; end = at }) held }

-- The innermost group ends at the place.
abbrev pub closed_at : ℕ → ℕ → Kept → Kept
closed_at number at kept = closed_from number at kept.starts kept.held

-- What is kept behind a step at a place.
abbrev pub kept_past : Option Step → ℕ → Kept → Kept
kept_past (Some (Open next)) at kept = opened at kept
kept_past (Some (Close number next)) at kept = closed_at number at kept
kept_past _ at kept = kept

-- For each step, by its place, the ways from it to the end.
abbrev pub Meaning : Type 0
Meaning = ℕ → Ways Kept

-- The ways from a step to the end, by those of the steps that it names.
abbrev pub step_ways : List ℕ → Meaning → Step → Ways Kept
step_ways text meaning Done = stop
step_ways text meaning (Byte b next) = behind (step_where text (λ c. c == b)) (meaning next)
step_ways text meaning (Class set next) = behind (step_where text (has_byte set)) (meaning next)
step_ways text meaning (Start next) = behind (stop_where (λ at. at == 0)) (meaning next)
step_ways text meaning (Finish next) = behind (stop_where (λ at. at == length text)) (meaning next)
step_ways text meaning (Open next) = λ at kept. meaning next at (opened at kept)
step_ways text meaning (Close number next) = λ at kept. meaning next at (closed_at number at kept)
step_ways text meaning (Either first second) = either (meaning first) (meaning second)

-- One more turn, or none: the turn first where the repeat is greedy.
abbrev pub turn_step : Bool → ℕ → ℕ → Step
turn_step greedy turn next = if greedy then Either turn next else Either next turn

-- The steps that a step names are among the first so many.
abbrev pub NamesBelow : ℕ → Step → Type 0
NamesBelow count Done = ⊤
NamesBelow count (Byte b next) = next < count
NamesBelow count (Class set next) = next < count
NamesBelow count (Start next) = next < count
NamesBelow count (Finish next) = next < count
NamesBelow count (Open next) = next < count
NamesBelow count (Close number next) = next < count
NamesBelow count (Either first second) = (first < count) × (second < count)

-- The meaning of a place is that of the step there.
abbrev pub IsMeaning : List ℕ → Meaning → ℕ → Option Step → Type 0
IsMeaning text meaning place None = meaning place ≡ none
IsMeaning text meaning place (Some step) = meaning place ≡ step_ways text meaning step

-- So it is for each place of the steps, and behind them there is no way.
abbrev pub Means : List ℕ → List Step → Meaning → Type 0
Means text steps meaning = (place : ℕ) → IsMeaning text meaning place (slice_get steps place)

-- ---- what a compiler adds

-- The step that was added at the place names steps that are there, and means what its kind says.
abbrev pub IsAdded : List ℕ → Meaning → ℕ → ℕ → Option Step → Type 0
IsAdded text meaning count place None = ⊤
IsAdded text meaning count place (Some step) = NamesBelow count step × meaning place ≡ step_ways text meaning step

-- Steps are added behind the old ones, which stay and keep their meaning.
pub record Extends (text : List ℕ) (old new : List Step) (before after : Meaning) : Type 0 where
  pub longer : length old ≤ length new
  pub kept : (place : ℕ) → place < length old → slice_get new place ≡ slice_get old place
  pub agrees : (place : ℕ) → place < length old → after place ≡ before place
  pub added : (place : ℕ) → length old ≤ place → IsAdded text after (length new) place (slice_get new place)

-- However the old steps are read, the new ones can be read with them, and the meaning of the place
-- is these ways, and behind them those of the step `next`.
pub record Reads (text : List ℕ) (old new : List Step) (ways : Ways Kept) (next place : ℕ) (before : Meaning) : Type
    0 where
  pub after : Meaning
  pub extends : Extends text old new before after
  pub is : after place ≡ behind ways (before next)

-- Steps for these ways are added, which begin at the place and go on at the step `next`.
pub record Compiles (text : List ℕ) (old new : List Step) (ways : Ways Kept) (next place : ℕ) : Type 0 where
  pub within : place < length new
  pub longer : length old ≤ length new
  pub reads : (before : Meaning) → Reads text old new ways next place before

-- The steps have a meaning, and that of this place is these ways.
pub record HasMeaning (text : List ℕ) (steps : List Step) (place : ℕ) (ways : Ways Kept) : Type 0 where
  pub meaning : Meaning
  pub means : Means text steps meaning
  pub is : meaning place ≡ ways
