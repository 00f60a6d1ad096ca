-- How a search through pairs stands: the place of a step, and a place of the text.
use Rattle.std.specs.Prelude.{◌≡◌, ℕ, Bool, IsTrue, List, [], ◌∷◌, ◌++◌, Option, Some, None, reverse}
use Rattle.std.specs.Prelude.{slice_get, if◌then◌else◌}
use Rattle.std.specs.List.{fold}
use Rattle.hc_ways.specs.Ways.{Way, stop}
use Rattle.hc_match.specs.Failures.{has_failed}
use Rattle.hc_match.specs.Program.{Kept, Meaning, kept_past, nothing_kept}
use Rattle.hc_match.specs.declared.failures.Failures.{Failures}
use Rattle.hc_match.specs.declared.program.Step.{Step}
use Rattle.hc_match.specs.declared.moves.Move.{Move}
use Rattle.hc_match.specs.declared.moves.Move.TheVariants.{Done, Fail, Next}
use Rattle.hc_match.specs.Settings.{held_over}
use Rattle.hc_ways.specs.Kept.{nothing_held}
use Rattle.hc_match.specs.declared.groups.Groups.{Groups}
use Rattle.hc_match.specs.declared.paths.Passed.{Passed}
use Rattle.hc_match.specs.declared.paths.Search.{Search}
use Rattle.hc_match.specs.declared.paths.Status.{Status}
use Rattle.hc_match.specs.declared.paths.Status.TheVariants.{Trying, Failing, Found, Ended}

-- No way leads on from the pair, whatever is kept.
abbrev pub Fails : Meaning → ℕ → ℕ → Type 0
Fails meaning step at = (kept : Kept) → meaning step at kept ≡ []

-- Each pair of the table fails.
abbrev pub AllFail : Meaning → Failures → Type 0
AllFail meaning failures = (step at : ℕ) → IsTrue (has_failed failures step at) → Fails meaning step at

-- The ways of the step that is still to be tried, if there is one.
abbrev pub other_ways : Meaning → Option ℕ → ℕ → Kept → List (Way Kept)
other_ways meaning None at kept = []
other_ways meaning (Some other) at kept = meaning other at kept

-- The ways that a move leads to, with what is kept before the step and behind it.
abbrev pub move_ways : Meaning → Move → ℕ → Kept → Kept → List (Way Kept)
move_ways meaning Done at before kept = stop at before
move_ways meaning Fail at before kept = []
move_ways meaning (Next step there other) at before kept = meaning step there kept ++ other_ways meaning other at kept

-- What is kept behind a pair that was passed.
abbrev pub past : List Step → Kept → Passed → Kept
past steps kept passed = kept_past (slice_get steps passed.step) passed.at kept

-- All ways of a pair that was passed are those of the pair that the search went on to, and those of
-- the step still to be tried.
abbrev pub Leads : List Step → Meaning → Passed → ℕ → ℕ → Type 0
Leads steps meaning passed step at = (kept : Kept) → meaning passed.step passed.at kept
    ≡ meaning step at (past steps kept passed) ++ other_ways meaning passed.other passed.at (past steps kept passed)

-- The pair is reached by these pairs, from one that meets the test.
abbrev pub Reached : List Step → Meaning → (ℕ → ℕ → Type 0) → List Passed → ℕ → ℕ → Type 0
Reached steps meaning From [] = From
Reached steps meaning From (first ∷ more) =
    Reached steps meaning (λ step at. From first.step first.at × Leads steps meaning first step at) more

-- It is this pair.
abbrev pub IsPair : ℕ → ℕ → ℕ → ℕ → Type 0
IsPair start from step at = (step ≡ start) × (at ≡ from)

-- The search came from this pair to the one where it is, and its table is right.
pub record IsSearch (steps : List Step) (meaning : Meaning) (start from : ℕ) (search : Search) : Type 0 where
  pub failures : AllFail meaning search.failures
  pub reached : Reached steps meaning (IsPair start from) search.passed.items search.step search.at

-- What each status says: of a pair that fails, of one where a way ends, and that no way is left.
abbrev pub Stands : List Step → Meaning → ℕ → ℕ → Status → Search → Type 0
Stands steps meaning start from Trying search = IsSearch steps meaning start from search
Stands steps meaning start from Failing search = IsSearch steps meaning start from search
    × Fails meaning search.step search.at
Stands steps meaning start from Found search =
    IsSearch steps meaning start from search
    × ((kept : Kept) → meaning search.step search.at kept ≡ stop search.at kept)
Stands steps meaning start from Ended search = AllFail meaning search.failures × Fails meaning start from

-- The search has found a way, or none is left.
abbrev pub HasEnded : List Step → Meaning → ℕ → ℕ → Bool → Search → Type 0
HasEnded steps meaning start from found = Stands steps meaning start from (if found then Found else Ended)

-- What is kept where a search is.
abbrev pub kept_now : List Step → List Passed → Kept
kept_now steps = fold (past steps) nothing_kept

-- What the code keeps of it, each list with the newest last.
abbrev pub kept_in : Groups → Kept
kept_in groups =
    record { starts = reverse groups.starts.items; held = held_over nothing_held (reverse groups.settings.items) }
