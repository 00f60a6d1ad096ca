-- A table of pairs, a bit each.
use Rattle.std.specs.Prelude.{ℕ, ◌+◌, ◌*◌, ◌/◌, ◌%◌, ◌==◌, Bool, false, List, if◌then◌else◌}
use Rattle.std.specs.Prelude.{nat_lt, slice_index}
use Rattle.std.specs.Int.{bit_at}
use Rattle.hc_match.specs.declared.failures.Failures.{Failures}

-- The bit of this number, counted from the lowest of the first word.
abbrev pub has_number : List ℕ → ℕ → Bool
has_number words number = bit_at (slice_index words (number / 64)) (number % 64) == 1

-- The pair of a step and a place of the text is in the table.
abbrev pub has_failed : Failures → ℕ → ℕ → Bool
has_failed failures step at = if nat_lt at failures.width then has_number failures.words.items
    (step * failures.width + at) else false
