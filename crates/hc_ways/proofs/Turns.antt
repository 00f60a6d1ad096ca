-- Turns of a repeat.
use Rattle.hc_ways.proofs.Common.{◌≡◌, ℕ, zero, suc, ◌+◌, ◌-◌, ◌<◌, ◌≤◌, Bool, true, false}
use Rattle.hc_ways.proofs.Common.{List, [], ◌∷◌, ◌++◌, length, if◌then◌else◌, nat_lt, nat_eq, max}
use Rattle.hc_ways.proofs.Common.{Option, Some, None, slice_get, refl, sym, ap, ◌∙◌, arith, true≢false}
use Rattle.hc_ways.proofs.Common.{ltb-true, le-ltb, lt-ltb, flat_map, filter, Pattern, empty, byte, class, start}
use Rattle.hc_ways.proofs.Common.{finish, cat, alt, group, repeat, Keeping, Way, Ways, none, stop, behind, either}
use Rattle.hc_ways.proofs.Common.{stop_where, meets, step_where, preferred, moving, any_turns, turns_up_to, turns_then}
use Rattle.hc_ways.proofs.Common.{repeated, ways, last_ways, with_group}
use Rattle.hc_pattern.specs.Bits.{has_byte}
use Rattle.hc_ways.specs.Laws.{IsItsTurns}
use Rattle.hc_ways.proofs.Lists.{Each, Each-append, Each-as, Each-flat_map, Each-filter, Each-map, flat_map-each}

-- No way goes back, and none ends past the place n, but where it begins there.
abbrev pub Below : {K : Type 0} → ℕ → ℕ → Way K → Type 0
Below n at way = (at ≤ way.end) × (way.end ≤ max at n)

abbrev pub Bounded : {K : Type 0} → ℕ → Ways K → Type 0
Bounded {K} n body = (at : ℕ) (held : K) → Each (Below n at) (body at held)

pub bounded_stop : {K : Type 0} (n : ℕ) → Bounded n (stop {Kept = K})
bounded_stop n at held = ((omega arith, omega arith), tt)

pub bounded_either : {K : Type 0} (n : ℕ) (a b : Ways K) → Bounded n a → Bounded n b → Bounded n (either a b)
bounded_either n a b first second at held = Each-append (Below n at) (a at held) (b at held) (first at held)
    (second at held)

pub bounded_behind : {K : Type 0} (n : ℕ) (a b : Ways K) → Bounded n a → Bounded n b → Bounded n (behind a b)
bounded_behind n a b first second at held =
    Each-flat_map (Below n at) (Below n at) _ (a at held) (first at held)
    (λ way on. Each-as (Below n way.end) (Below n at) _
    (λ later more. (omega (arith, on.0, more.0), omega (arith, on.1, more.1))) (second way.end way.held))

bounded_moving : {K : Type 0} (n : ℕ) (a : Ways K) → Bounded n a → Bounded n (moving a)
bounded_moving n a each at held = Each-filter (Below n at) _ (a at held) (each at held)

bounded_preferred : {K : Type 0} (n : ℕ) (greedy : Bool) (turn : Ways K) → Bounded n turn
    → Bounded n (preferred greedy turn)
bounded_preferred n true turn each = bounded_either n turn stop each (bounded_stop n)
bounded_preferred n false turn each = bounded_either n stop turn (bounded_stop n) each

bounded_any : {K : Type 0} (n : ℕ) (greedy : Bool) (body : Ways K) (bytes : ℕ) → Bounded n body
    → Bounded n (any_turns greedy body bytes)
bounded_any n greedy body zero each = bounded_stop n
bounded_any n greedy body (suc bytes) each =
    bounded_preferred n greedy _
    (bounded_behind n (moving body) _ (bounded_moving n body each) (bounded_any n greedy body bytes each))

bounded_up_to : {K : Type 0} (n : ℕ) (greedy : Bool) (body : Ways K) (most : ℕ) → Bounded n body
    → Bounded n (turns_up_to greedy body most)
bounded_up_to n greedy body zero each = bounded_stop n
bounded_up_to n greedy body (suc most) each =
    bounded_preferred n greedy _ (bounded_behind n body _ each (bounded_up_to n greedy body most each))

bounded_then : {K : Type 0} (n : ℕ) (body : Ways K) (least : ℕ) (more : Ways K) → Bounded n body
    → Bounded n more → Bounded n (turns_then body least more)
bounded_then n body zero more each later = later
bounded_then n body (suc least) more each later =
    bounded_behind n body _ each (bounded_then n body least more each later)

pub bounded_if : {K : Type 0} (n : ℕ) (v : Bool) (a : Ways K) → Bounded n a → Bounded n (if v then none else a)
bounded_if n true a each = λ at held. tt
bounded_if n false a each = each

pub bounded_repeated : {K : Type 0} (n bytes : ℕ) (body : Ways K) (least : ℕ) (most : Option ℕ) (greedy : Bool)
    → Bounded n body → Bounded n (repeated bytes body least most greedy)
bounded_repeated n bytes body least None greedy each =
    bounded_then n body least _ each (bounded_any n greedy body bytes each)
bounded_repeated n bytes body least (Some most) greedy each =
    bounded_if n (nat_lt most least) _
    (bounded_then n body least _ each (bounded_up_to n greedy body (most - least) each))

bounded_test : {K : Type 0} (n at end : ℕ) (held : K) (v : Bool)
    → (v ≡ true → (at ≤ end) × (end ≤ max at n)) → Each (Below n at) (if v then stop end held else [])
bounded_test n at end held true within = (within refl, tt)
bounded_test n at end held false within = tt

inside : (test : ℕ → Bool) (text : List ℕ) (at : ℕ) → meets test (slice_get text at) ≡ true
    → at < length text
inside test [] at is = absurd (true≢false (sym is))
inside test (b ∷ bs) zero is = omega arith
inside test (b ∷ bs) (suc at) is = omega (arith, inside test bs at is)

bounded_step : {K : Type 0} (text : List ℕ) (test : ℕ → Bool)
    → Bounded (length text) (step_where {Kept = K} text test)
bounded_step text test at held =
    bounded_test (length text) at (at + 1) held (meets test (slice_get text at))
    (λ is. (omega arith, omega (arith, inside test text at is)))

bounded_stop_where : {K : Type 0} (n : ℕ) (test : ℕ → Bool) → Bounded n (stop_where {Kept = K} test)
bounded_stop_where n test at held = bounded_test n at at held (test at) (λ is. (omega arith, omega arith))

pub bounded : {K : Type 0} (keep : Keeping K) (text : List ℕ) (pattern : Pattern)
    → Bounded (length text) (ways keep text pattern)
bounded keep text empty = bounded_stop (length text)
bounded keep text (byte b) = bounded_step text (λ c. nat_eq c b)
bounded keep text (class set) = bounded_step text (has_byte set)
bounded keep text start = bounded_stop_where (length text) (λ at. nat_eq at 0)
bounded keep text finish = bounded_stop_where (length text) (λ at. nat_eq at (length text))
bounded keep text (cat first second) =
    bounded_behind (length text) _ _ (bounded keep text first) (bounded keep text second)
bounded keep text (alt first second) =
    bounded_either (length text) _ _ (bounded keep text first) (bounded keep text second)
bounded keep text (group number body) = λ at held. Each-map (Below (length text) at) (Below (length text) at) _
    (ways keep text body at held) (bounded keep text body at held) (λ way within. within)
bounded keep text (repeat body least most greedy) =
    bounded_repeated (length text) (length text) (ways keep text body) least most greedy (bounded keep text body)

-- ---- a turn more than there are bytes changes nothing

-- The way has moved, and not past the place n.
abbrev Moves : {K : Type 0} → ℕ → ℕ → Way K → Type 0
Moves n at way = (at < way.end) × (way.end ≤ max at n)

moves_step : {K : Type 0} (n at : ℕ) (way : Way K) (ways : List (Way K)) (v : Bool) → nat_lt at way.end ≡ v
    → way.end ≤ max at n → Each (Moves n at) ways → Each (Moves n at) (if v then way ∷ ways else ways)
moves_step n at way ways true is within each = ((ltb-true at way.end is, within), each)
moves_step n at way ways false is within each = each

moves : {K : Type 0} (n at : ℕ) (ways : List (Way K)) → Each (Below n at) ways
    → Each (Moves n at) (filter (λ way. nat_lt at way.end) ways)
moves n at [] each = tt
moves n at (way ∷ ways) each = moves_step n at way _ (nat_lt at way.end) refl each.0.1 (moves n at ways each.1)

none_moves : {K : Type 0} (n at : ℕ) (ways : List (Way K)) → n ≤ at → Each (Moves n at) ways → ways ≡ []
none_moves n at [] past each = refl
none_moves n at (way ∷ ways) past each = absurd (omega (arith, each.0.0, each.0.1))

preferred_none : {K : Type 0} (greedy : Bool) (turn : Ways K) (at : ℕ) (held : K) → turn at held ≡ []
    → preferred greedy turn at held ≡ stop at held
preferred_none true turn at held is = ap (λ l. l ++ stop at held) is
preferred_none false turn at held is = ap (λ l. stop at held ++ l) is

preferred_same : {K : Type 0} (greedy : Bool) (a b : Ways K) (at : ℕ) (held : K) → a at held ≡ b at held
    → preferred greedy a at held ≡ preferred greedy b at held
preferred_same true a b at held is = ap (λ l. l ++ stop at held) is
preferred_same false a b at held is = ap (λ l. stop at held ++ l) is

one_more : {K : Type 0} (n : ℕ) (greedy : Bool) (body : Ways K) → Bounded n body → (bytes at : ℕ) (held : K)
    → n - at ≤ bytes → any_turns greedy body (suc bytes) at held ≡ any_turns greedy body bytes at held
one_more n greedy body each zero at held enough =
    preferred_none greedy (behind (moving body) stop) at held
    (ap (flat_map (λ way. stop way.end way.held))
    (none_moves n at _ (omega arith) (moves n at (body at held) (each at held))))
one_more n greedy body each (suc bytes) at held enough =
    preferred_same greedy (behind (moving body) (any_turns greedy body (suc bytes)))
    (behind (moving body) (any_turns greedy body bytes)) at held
    (flat_map-each (Moves n at) _ _ _ (moves n at (body at held) (each at held))
    (λ way moved. one_more n greedy body each bytes way.end way.held (omega (arith, moved.0, moved.1))))

more_turns : {K : Type 0} (n : ℕ) (greedy : Bool) (body : Ways K) → Bounded n body
    → (extra bytes at : ℕ) (held : K) → n - at ≤ bytes → any_turns greedy body (extra + bytes) at held
    ≡ any_turns greedy body bytes at held
more_turns n greedy body each zero bytes at held enough = let e : 0 + bytes ≡ bytes = omega arith in
    ap (λ k. any_turns greedy body k at held) e
more_turns n greedy body each (suc extra) bytes at held enough =
    let e : suc extra + bytes ≡ suc (extra + bytes) = omega arith in
    ap (λ k. any_turns greedy body k at held) e ∙ one_more n greedy body each (extra + bytes) at held (omega arith)
    ∙ more_turns n greedy body each extra bytes at held enough

-- As many turns as there are bytes left are enough.
pub enough_turns : {K : Type 0} (n : ℕ) (greedy : Bool) (body : Ways K) → Bounded n body
    → (bytes at : ℕ) (held : K) → n - at ≤ bytes → any_turns greedy body bytes at held
    ≡ any_turns greedy body n at held
enough_turns n greedy body each bytes at held enough =
    let down : bytes ≡ (bytes - (n - at)) + (n - at) = omega arith in
    let up : n ≡ (n - (n - at)) + (n - at) = omega arith in
    ap (λ k. any_turns greedy body k at held) down ∙ more_turns n greedy body each (bytes - (n - at)) (n - at) at
    held (omega arith)
    ∙ sym (ap (λ k. any_turns greedy body k at held) up ∙ more_turns n greedy body each (n - (n - at)) (n - at) at
    held (omega arith))

-- One turn, and then any number of them: what the number that counts them down stands for.
pub any_turns_is : {K : Type 0} (text : List ℕ) (greedy : Bool) (body : Ways K) → Bounded (length text) body
    → any_turns greedy body (length text)
    ≡ preferred greedy (behind (moving body) (any_turns greedy body (length text)))
any_turns_is text greedy body each =
    λ i at held. sym (one_more (length text) greedy body each (length text) at held (omega arith)) i

-- ---- counted turns

first_counted : {K : Type 0} (bytes : ℕ) (body : Ways K) (least most : ℕ) (greedy : Bool) → least ≤ most
    → repeated bytes body (suc least) (Some (suc most)) greedy
    ≡ behind body (repeated bytes body least (Some most) greedy)
first_counted bytes body least most greedy within =
    let less : suc most - suc least ≡ most - least = omega arith in
    rw (le-ltb most least within, le-ltb (suc most) (suc least) (omega arith), less) refl

-- A turn that has to be, and the others.
pub first_turn : {K : Type 0} (bytes : ℕ) (body : Ways K) (least most : ℕ) (greedy : Bool) → 0 < least
    → least ≤ most
    → repeated bytes body least (Some most) greedy
    ≡ behind body (repeated bytes body (least - 1) (Some (most - 1)) greedy)
first_turn bytes body zero most greedy some within = absurd (omega arith)
first_turn bytes body (suc least) zero greedy some within = absurd (omega arith)
first_turn bytes body (suc least) (suc most) greedy some within =
    let l : suc least - 1 ≡ least = omega arith in
    let m : suc most - 1 ≡ most = omega arith in
    rw (l, m) (first_counted bytes body least most greedy (omega arith))

pub first_turn_of_any : {K : Type 0} (bytes : ℕ) (body : Ways K) (least : ℕ) (greedy : Bool) → 0 < least
    → repeated bytes body least None greedy ≡ behind body (repeated bytes body (least - 1) None greedy)
first_turn_of_any bytes body zero greedy some = absurd (omega arith)
first_turn_of_any bytes body (suc least) greedy some = let l : suc least - 1 ≡ least = omega arith in rw l refl

no_turns : {K : Type 0} (bytes : ℕ) (body : Ways K) (least most : ℕ) (greedy : Bool) → most < least
    → repeated bytes body least (Some most) greedy ≡ none
no_turns bytes body least most greedy fewer = rw (lt-ltb most least fewer) refl

further_counted : {K : Type 0} (bytes : ℕ) (body : Ways K) (most : ℕ) (greedy : Bool)
    → repeated bytes body 0 (Some (suc most)) greedy
    ≡ preferred greedy (behind body (repeated bytes body 0 (Some most) greedy))
further_counted bytes body most greedy =
    let a : suc most - 0 ≡ suc most = omega arith in
    let b : most - 0 ≡ most = omega arith in
    rw (le-ltb (suc most) 0 (omega arith), le-ltb most 0 (omega arith), a, b) refl

-- A turn that may be.
pub further_turn : {K : Type 0} (bytes : ℕ) (body : Ways K) (most : ℕ) (greedy : Bool) → 0 < most
    → repeated bytes body 0 (Some most) greedy
    ≡ preferred greedy (behind body (repeated bytes body 0 (Some (most - 1)) greedy))
further_turn bytes body zero greedy some = absurd (omega arith)
further_turn bytes body (suc most) greedy some = let m : suc most - 1 ≡ most = omega arith in
    rw m (further_counted bytes body most greedy)

pub is_its_turns : (text : List ℕ) (body : Pattern) (greedy : Bool) → IsItsTurns text body greedy
is_its_turns text body greedy = record {
  fewer = λ least most fewer. no_turns (length text) (last_ways text body) least most greedy fewer;
  counted = λ least most within. first_counted (length text) (last_ways text body) least most greedy within;
  uncounted = λ least. refl;
  last = refl;
  further = λ most. further_counted (length text) (last_ways text body) most greedy;
  endless = any_turns_is text greedy (last_ways text body) (bounded with_group text body);
}
