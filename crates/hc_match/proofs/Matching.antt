-- What a search finds is the match.
use Rattle.hc_match.proofs.Common.{◌≡◌, ℕ, ◌+◌, ◌-◌, ◌<◌, Bool, true, false, List, [], ◌∷◌}
use Rattle.hc_match.proofs.Common.{map, Some, None, option_map, refl, sym, ap, ◌∙◌, true≢false, option_or}
use Rattle.hc_match.proofs.Common.{Pattern, Way, Held, first_of, held_by, match_among, match_at, with_group, HasMeaning}
use Rattle.hc_match.proofs.Common.{Meaning, keeping_held, kept_ways, nothing_kept, AllFail, Fails, HasEnded, Stands}
use Rattle.hc_match.proofs.Common.{kept_now, Step}
use Rattle.hc_ways.proofs.Images.{alike_ways, image}
use Rattle.hc_match.specs.declared.paths.Search.{Search}
use Rattle.hc_match.specs.declared.paths.Status.TheVariants.{Found}
use Rattle.hc_match.proofs.Places.{step}
use Rattle.hc_match.proofs.PairSearch.{found_way}

pub ended : (steps : List Step) (meaning : Meaning) (start from : ℕ) (found : Bool) (search : Search)
    → HasEnded steps meaning start from found search → found ≡ false
    → AllFail meaning search.failures × Fails meaning start from
ended steps meaning start from false search stands is = stands
ended steps meaning start from true search stands is = absurd (true≢false is)

found_so : (steps : List Step) (meaning : Meaning) (start from : ℕ) (found : Bool) (search : Search)
    → HasEnded steps meaning start from found search → found ≡ true
    → Stands steps meaning start from Found search
found_so steps meaning start from true search stands is = stands
found_so steps meaning start from false search stands is = absurd (true≢false (sym is))

first_image : {K L : Type 0} (f : K → L) (found : List (Way K)) → first_of (map (image f) found)
    ≡ option_map (image f) (first_of found)
first_image f [] = refl
first_image f (way ∷ found) = refl

-- The match in terms of the ways that keep where groups began.
match_is : (text : List ℕ) (pattern : Pattern) (from : ℕ) → match_at text pattern from
    ≡ option_map (held_by from)
    (option_map (image (λ kept. kept.held)) (first_of (kept_ways text pattern from nothing_kept)))
match_is text pattern from =
    ap (option_map (held_by from))
    (ap first_of
    (sym (alike_ways (λ kept. kept.held) keeping_held with_group (λ number span kept. refl) text pattern from
    nothing_kept))
    ∙ first_image (λ kept. kept.held) (kept_ways text pattern from nothing_kept))

pub no_match : (text : List ℕ) (pattern : Pattern) (steps : List Step) (start from : ℕ)
    (reading : HasMeaning text steps start (kept_ways text pattern))
    → Fails reading.meaning start from → match_at text pattern from ≡ None
no_match text pattern steps start from reading fails =
    match_is text pattern from
    ∙ ap (λ found. option_map (held_by from) (option_map (image (λ kept. kept.held)) (first_of found)))
    (ap (λ ways. ways from nothing_kept) (sym reading.is) ∙ fails nothing_kept)

pub found_match : (text : List ℕ) (pattern : Pattern) (steps : List Step) (start from : ℕ) (found : Bool)
    (search : Search) (reading : HasMeaning text steps start (kept_ways text pattern))
    → HasEnded steps reading.meaning start from found search → found ≡ true
    → match_at text pattern from
    ≡ Some (with_group 0 (record { start = from; end = search.at }) (kept_now steps search.passed.items).held)
found_match text pattern steps start from found search reading stands is =
    let so = found_so steps reading.meaning start from found search stands is in
    match_is text pattern from
    ∙ ap (λ way. option_map (held_by from) (option_map (image (λ kept. kept.held)) way))
    (ap (λ ways. first_of (ways from nothing_kept)) (sym reading.is)
    ∙ found_way steps reading.meaning start from nothing_kept search.passed.items search.step search.at so.0.reached
    so.1)

pub found_here : (text : List ℕ) (pattern : Pattern) (end from : ℕ) (held : Held) → from < end
    → match_at text pattern from ≡ Some held → match_among text pattern (end - from) from ≡ Some held
found_here text pattern end from held within found =
    step text pattern end from within
    ∙ ap (λ first. option_or first (match_among text pattern (end - (from + 1)) (from + 1))) found
