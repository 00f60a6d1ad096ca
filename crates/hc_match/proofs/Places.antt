-- The least place that has a match.
use Rattle.std.specs.Prelude.{not}
use Rattle.std.specs.List.{prefix_len}
use Rattle.std.proofs.lemmas.Bool.{cases_lt, not-true}
use Rattle.std.proofs.lemmas.List.{get_or-drop, length-drop}
use Rattle.std.proofs.lemmas.List.Sums.{prefix_len_passes, prefix_len-le-length}
use Rattle.hc_match.specs.Single.{BeginsWith}
use Rattle.hc_match.specs.declared.start.First.{First}
use Rattle.hc_match.proofs.Common.{◌≡◌, inl, inr, refl, zero, ◌≤◌, false, length, drop, slice_get}
use Rattle.hc_match.proofs.Common.{slice_get-get_or, meets, is_first, ℕ, suc, ◌+◌, ◌-◌, ◌<◌, List, []}
use Rattle.hc_match.proofs.Common.{Option, None, option_map, ap, sym, ◌∙◌, arith, option_or, Pattern, Held}
use Rattle.hc_match.proofs.Common.{first_of, held_by, last_ways, match_among, match_at, nothing_held}

-- The places from one on, below another.
abbrev places : List ℕ → Pattern → ℕ → ℕ → Option Held
places text pattern end from = match_among text pattern (end - from) from

pub step : (text : List ℕ) (pattern : Pattern) (end from : ℕ) → from < end → places text pattern end from
    ≡ option_or (match_at text pattern from) (places text pattern end (from + 1))
step text pattern end from within = let more : end - from ≡ suc (end - (from + 1)) = omega arith in
    ap (λ count. match_among text pattern count from) more

pub none_here : (text : List ℕ) (pattern : Pattern) (end from : ℕ) → from < end → match_at text pattern from
    ≡ None
    → match_among text pattern (end - from) from ≡ match_among text pattern (end - (from + 1)) (from + 1)
none_here text pattern end from within none = step text pattern end from within
    ∙ ap (λ found. option_or found (places text pattern end (from + 1))) none

-- Nothing is found at a place, and so the match is at a later one.
pub later : (text : List ℕ) (pattern : Pattern) (end from : ℕ) (all : Option Held) → from < end
    → last_ways text pattern from nothing_held ≡ []
    → match_among text pattern (end - from) from ≡ all → match_among text pattern (end - (from + 1)) (from + 1)
    ≡ all
later text pattern end from all within none is =
    sym (none_here text pattern end from within (ap (λ ways. option_map (held_by from) (first_of ways)) none)) ∙ is

-- The same, whether the place is below the other or not.
pub passed : (text : List ℕ) (pattern : Pattern) (end from : ℕ) → last_ways text pattern from nothing_held ≡ []
    → match_among text pattern (end - (from + 1)) (from + 1) ≡ match_among text pattern (end - from) from
passed text pattern end from none =
    elim (cases_lt from end) [
      | inl within ↦ later text pattern end from (match_among text pattern (end - from) from) within none refl
      | inr past ↦
          let one : end - from ≡ 0 = omega (arith, past) in
          let other : end - (from + 1) ≡ 0 = omega (arith, past) in
          ap (λ count. match_among text pattern count (from + 1)) other
          ∙ sym (ap (λ count. match_among text pattern count from) one)
    ]

-- Places at which no match begins are passed.
pub all_passed : (first : First) (text : List ℕ) (pattern : Pattern) (end from count : ℕ)
    → BeginsWith first pattern
    → count ≤ prefix_len (λ byte. not (is_first first byte)) (drop from text)
    → match_among text pattern (end - (from + count)) (from + count) ≡ match_among text pattern (end - from)
    from
all_passed first text pattern end from zero begins within = let here : from + 0 ≡ from = omega arith in
    ap (λ from. match_among text pattern (end - from) from) here
all_passed first text pattern end from (suc count) begins within =
    let rest = drop from text in let at = from + count in
    let inside : count < length rest = let most = prefix_len-le-length (λ byte. not (is_first first byte)) rest in
    omega (arith, within, most) in
    let further : at + 1 ≡ from + suc count = omega arith in
    let none : meets (is_first first) (slice_get text at) ≡ false =
    ap (meets (is_first first))
    (slice_get-get_or text at 0 (let long = length-drop from text in omega (arith, inside, long)))
    ∙ ap (is_first first) (sym (get_or-drop from text count 0))
    ∙ not-true _ (prefix_len_passes (λ byte. not (is_first first byte)) rest count 0 (omega (arith, within))) in
    ap (λ from. match_among text pattern (end - from) from) (sym further)
    ∙ passed text pattern end at (begins text at nothing_held none)
    ∙ all_passed first text pattern end from count begins (omega (arith, within))
