-- What patterns begin with.
use Rattle.hc_match.proofs.Common.{IfSome, ◌++◌, append-nil, le-ltb, cat, behind, moving, preferred, stop}
use Rattle.hc_match.proofs.Common.{◌≡◌, ℕ, zero, suc, ◌+◌, ◌-◌, ◌<◌, Bool, true, false, List, []}
use Rattle.hc_match.proofs.Common.{length, if◌then◌else◌, nat_lt, Option, Some, None, option_map, refl, ap, sym}
use Rattle.hc_match.proofs.Common.{◌∙◌, arith, flat_map, option_or, Pattern, repeat, Held, first_match, first_of}
use Rattle.hc_match.proofs.Common.{held_by, last_ways, match_among, match_at, nothing_held, Ways, any_turns, none}
use Rattle.hc_match.proofs.Common.{repeated, turns_then, turns_up_to}
use Rattle.hc_match.specs.declared.start.First.{First}
use Rattle.std.specs.List.{filter}
use Rattle.hc_match.specs.Single.{BeginsAtStart, BeginsWith, NoWay}

unless : (v : Bool) (a : Ways Held) (at : ℕ) (held : Held) → a at held ≡ [] → (if v then none else a) at held
    ≡ []
unless true a at held is = refl
unless false a at held is = is

no_first_turn : (bytes : ℕ) (body : Ways Held) (least : ℕ) (most : Option ℕ) (greedy : Bool) (at : ℕ)
    (held : Held) → 0 < least → body at held ≡ [] → repeated bytes body least most greedy at held ≡ []
no_first_turn bytes body zero most greedy at held some is = absurd (omega (arith, some))
no_first_turn bytes body (suc least) None greedy at held some is =
    ap (flat_map (λ way. turns_then body least (any_turns greedy body bytes) way.end way.held)) is
no_first_turn bytes body (suc least) (Some most) greedy at held some is =
    unless (nat_lt most (suc least)) (turns_then body (suc least) (turns_up_to greedy body (most - suc least))) at held
    (ap (flat_map (λ way. turns_then body least (turns_up_to greedy body (most - suc least)) way.end way.held)) is)

-- A repeat with a turn that has to be has no way from a place where its body has none.
pub no_repeat : (text : List ℕ) (whole body a : Pattern) (least : ℕ) (most : Option ℕ) (greedy : Bool)
    (from : ℕ) (held : Held) → whole ≡ repeat body least most greedy → a ≡ body → 0 < least
    → last_ways text a from held ≡ [] → last_ways text whole from held ≡ []
no_repeat text whole body a least most greedy from held is one some none =
    rw is (no_first_turn (length text) (last_ways text body) least most greedy from held some (rw one at none))

pub turns_begin : (whole body a : Pattern) (least : ℕ) (most : Option ℕ) (greedy : Bool)
    → whole ≡ repeat body least most greedy → a ≡ body → 0 < least → BeginsAtStart a → BeginsAtStart whole
turns_begin whole body a least most greedy is one some starts text from held later =
    no_repeat text whole body a least most greedy from held is one some (starts text from held later)

pub leads : (found : Option First) (lead whole : Pattern)
    → ((text : List ℕ) (at : ℕ) → NoWay text at lead → NoWay text at whole)
    → IfSome found (λ first. BeginsWith first lead) → IfSome found (λ first. BeginsWith first whole)
leads None lead whole over begins = tt
leads (Some first) lead whole over begins = λ text from held out. over text from (λ held. begins text from held out)
    held

pub turns_begin_in : (found : Option First) (whole body a : Pattern) (least : ℕ) (most : Option ℕ) (greedy : Bool)
    → whole ≡ repeat body least most greedy → a ≡ body → 0 < least
    → IfSome found (λ first. BeginsWith first a) → IfSome found (λ first. BeginsWith first whole)
turns_begin_in found whole body a least most greedy is one some =
    leads found a whole (λ text from none held. no_repeat text whole body a least most greedy from held is one some
    (none held))

later_places : (text : List ℕ) (pattern : Pattern) (count from : ℕ) → BeginsAtStart pattern → 0 < from
    → match_among text pattern count from ≡ None
later_places text pattern zero from starts later = refl
later_places text pattern (suc count) from starts later =
    ap (λ found. option_or (option_map (held_by from) (first_of found)) (match_among text pattern count (from + 1)))
    (starts text from nothing_held later)
    ∙ later_places text pattern count (from + 1) starts (omega (arith, later))

pub first_place : (text : List ℕ) (pattern : Pattern) → BeginsAtStart pattern → match_among text pattern 1 0
    ≡ first_match text pattern
first_place text pattern starts =
    let more : length text + 1 ≡ suc (length text) = omega arith in
    sym (ap (λ count. match_among text pattern count 0) more ∙ ap (option_or (match_at text pattern 0))
    (later_places text pattern (length text) 1 starts (omega arith)))

-- No turn has a way, so only the place itself is left.
maybe_turn : (greedy : Bool) (turn : Ways Held) (at : ℕ) (held : Held) → turn at held ≡ []
    → preferred greedy turn at held ≡ stop at held
maybe_turn true turn at held none = ap (λ l. l ++ stop at held) none
maybe_turn false turn at held none = ap (λ l. stop at held ++ l) none

no_turn_of : (body : Ways Held) (most : ℕ) (greedy : Bool) (at : ℕ) (held : Held) → body at held ≡ []
    → turns_up_to greedy body most at held ≡ stop at held
no_turn_of body zero greedy at held none = refl
no_turn_of body (suc most) greedy at held none = maybe_turn greedy (behind body (turns_up_to greedy body most)) at held
    (ap (flat_map (λ way. turns_up_to greedy body most way.end way.held)) none)

no_turn : (bytes : ℕ) (body : Ways Held) (most : Option ℕ) (greedy : Bool) (at : ℕ) (held : Held)
    → body at held ≡ [] → repeated bytes body 0 most greedy at held ≡ stop at held
no_turn zero body None greedy at held none = refl
no_turn (suc bytes) body None greedy at held none =
    maybe_turn greedy (behind (moving body) (any_turns greedy body bytes)) at held
    (ap (λ ways. flat_map (λ way. any_turns greedy body bytes way.end way.held)
    (filter (λ way. nat_lt at way.end) ways)) none)
no_turn bytes body (Some most) greedy at held none =
    let all : most - 0 ≡ most = omega arith in
    rw (le-ltb most 0 (omega arith), all) (no_turn_of body most greedy at held none)

-- Neither a turn nor what is behind the repeat has a way.
pub no_second : (text : List ℕ) (whole first second body a b : Pattern) (least : ℕ) (most : Option ℕ)
    (greedy : Bool) (at : ℕ) → whole ≡ cat first second
    → first ≡ repeat body least most greedy → least ≡ 0 → a ≡ body → b ≡ second → NoWay text at a
    → NoWay text at b → NoWay text at whole
no_second text whole first second body a b least most greedy at is one zero_least body_is second_is none no_rest held =
    rw (is, one, zero_least)
    (ap (flat_map (λ way. last_ways text second way.end way.held))
    (no_turn (length text) (last_ways text body) most greedy at held (rw (← body_is) (none held)))
    ∙ append-nil (last_ways text second at held) ∙ rw (← second_is) (no_rest held))
