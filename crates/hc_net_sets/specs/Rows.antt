-- Texts of numbers that may stand where they stand, all of them or around `::`.
use Rattle.std.specs.Prelude.{ℕ, zero, suc, ◌+◌, ◌==◌, List, [], ◌∷◌, take, drop, Bool, true, false}
use Rattle.std.specs.Prelude.{◌&&◌, Option}
use Rattle.std.specs.Prelude.{Some, None}
use Rattle.std.specs.List.{slice_split}
use Rattle.hc_addr.specs.Addresses.{gap_of}
use Rattle.hc_addr.specs.Numbers.{byte_of, group_of}
use Rattle.hc_dfa.specs.Texts.{TextSet}
use Rattle.hc_net_sets.specs.Sought.{count_of, fits_at, separator_of, zeros_fit}
use Rattle.hc_net_sets.specs.declared.sought.Family.{Family}
use Rattle.hc_net_sets.specs.declared.sought.Family.TheVariants.{Four, Six}
use Rattle.hc_net_sets.specs.declared.sought.Sought.{Sought}
use Rattle.hc_net_sets.specs.declared.sought.TheConstants.{GROUPS}

abbrev pub number_in : Family → List ℕ → Option ℕ
number_in Four text = byte_of text
number_in Six text = group_of text

abbrev pub passes : (ℕ → Bool) → Option ℕ → Bool
passes test None = false
passes test (Some number) = test number

-- The text writes a number that may stand at the place.
abbrev pub number_fits : Sought → ℕ → TextSet
number_fits sought place text = passes (fits_at sought place) (number_in sought.family text)

-- Each piece writes a number that may stand where it stands, and with so many numbers left the row may end.
abbrev pub row_fits : Sought → (ℕ → Bool) → ℕ → List (List ℕ) → Bool
row_fits sought end left [] = end left
row_fits sought end zero (piece ∷ pieces) = false
row_fits sought end (suc place) (piece ∷ pieces) = number_fits sought place piece && row_fits sought end place pieces

abbrev pub is_none : ℕ → Bool
is_none left = left == 0

abbrev pub pieces_of : Sought → List ℕ → List (List ℕ)
pieces_of sought text = slice_split (λ b. b == separator_of sought.family) text

-- All numbers of an address, each of which may stand where it stands.
abbrev pub whole_texts : Sought → TextSet
whole_texts sought text = row_fits sought is_none (count_of sought.family) (pieces_of sought text)

-- What stands before `::`.
abbrev pub front_fits : Sought → TextSet
front_fits sought [] = zeros_fit sought GROUPS
front_fits sought (b ∷ text) = row_fits sought (zeros_fit sought) GROUPS (pieces_of sought (b ∷ text))

abbrev pub is_nothing : TextSet
is_nothing [] = true
is_nothing (b ∷ text) = false

-- What stands behind `::`, which is so many numbers.
abbrev pub back_from : Sought → ℕ → TextSet
back_from sought zero text = is_nothing text
back_from sought (suc place) text = row_fits sought is_none (suc place) (pieces_of sought text)

abbrev pub back_fits : Sought → TextSet
back_fits sought text = back_from sought sought.behind text

abbrev pub parted : TextSet → TextSet → List ℕ → Option ℕ → Bool
parted front back text None = false
parted front back text (Some at) = front (take at text) && back (drop (at + 2) text)

-- The first `::` stands between texts of these sets.
abbrev pub gapped : TextSet → TextSet → TextSet
gapped front back text = parted front back text (gap_of text)

-- An address with `::` and so many groups behind it, each of which may stand where it stands.
abbrev pub gapped_texts : Sought → TextSet
gapped_texts sought text = gapped (front_fits sought) (back_fits sought) text
