-- Reading a text beside a fixed one.
use Rattle.std.specs.Prelude.{ℕ, ◌+◌, ◌==◌, nat_lt, nat_le, List, length, take, slice_index, Bool, true, false}
use Rattle.std.specs.Prelude.{if◌then◌else◌}
use Rattle.std.specs.Char.{eq_ignore_ascii_case}
use Rattle.hc_dfa.specs.Texts.{TextSet}
use Rattle.hc_rw_eval.specs.Conditions.{is_text}
use Rattle.hc_rw_sets.specs.declared.fronts.Spot.{Spot}
use Rattle.hc_rw_sets.specs.declared.fronts.Spot.TheVariants.{At, Other}

-- What is compared with the fixed text: as much as that, where more may follow.
abbrev pub compared : Bool → List ℕ → List ℕ → List ℕ
compared true wanted text = take (length wanted) text
compared false wanted text = text

-- The texts that are the wanted one, or begin so.
abbrev pub is_wanted : Bool → Bool → List ℕ → TextSet
is_wanted nocase goes_on wanted text = is_text nocase wanted (compared goes_on wanted text)

abbrev pub same_byte : Bool → ℕ → ℕ → Bool
same_byte true a b = eq_ignore_ascii_case a b
same_byte false a b = a == b

-- The next byte of the wanted text has to be this one. Behind the last one any may follow, or none.
abbrev pub next_spot : Bool → Bool → List ℕ → Spot → ℕ → Spot
next_spot nocase goes_on wanted Other byte = Other
next_spot nocase goes_on wanted (At place) byte =
    if nat_lt place (length wanted)
    then (if same_byte nocase (slice_index wanted place) byte then At (place + 1) else Other)
    else if goes_on then At place else Other

abbrev pub ends_at : List ℕ → Spot → Bool
ends_at wanted Other = false
ends_at wanted (At place) = nat_le (length wanted) place
