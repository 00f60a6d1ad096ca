-- How what is said of ways leads to what is said of others.
use Rattle.std.proofs.Common.{◌≡◌, ℕ, ◌-◌, ◌<◌, ◌≤◌, Bool, true, false, List, [], ◌∷◌}
use Rattle.std.proofs.Common.{◌++◌, length, nat_lt, if◌then◌else◌, Option, Some, None, option_map, Result}
use Rattle.std.proofs.Common.{IfOk, sym, ap, subst, ◌∙◌, refl, true≢false, ltb-false, is_some, nat_eq, zero}
use Rattle.std.proofs.Common.{suc, arith}
use Rattle.hc_match.proofs.Common.{flat_map, option_eq, none-some, Pattern, alt, cat, group, Way, Ways, any_turns}
use Rattle.hc_match.proofs.Common.{behind, moving, none, preferred, repeated, stop, closed, Held, first_of, last_ways}
use Rattle.hc_match.proofs.Common.{with_group, behind-behind, behind-either, behind-preferred, same_ways, turn_or_next}
use Rattle.hc_match.proofs.Common.{append-nil, flat_map-filter, Says, less_than, preferring, held_over}
use Rattle.std.proofs.lemmas.List.Folds.{flat_map-map}
use Rattle.hc_ways.proofs.Turns.{any_turns_is, bounded, first_turn, first_turn_of_any, further_turn}
use Rattle.hc_match.specs.declared.captures.Setting.{Setting}
use Rattle.hc_match.specs.declared.straight.Straight.{Straight}
use Rattle.hc_match.specs.declared.frame.Tried.{Tried}
use Rattle.hc_match.specs.declared.frame.Tried.TheVariants.{Matched, Failed, GaveUp}

first_before : (ways others : List (Way Held)) (way : Way Held) → first_of ways ≡ Some way
    → first_of (ways ++ others) ≡ Some way
first_before [] others way is = absurd (none-some way is)
first_before (found ∷ ways) others way is = is

-- It is said of the same ways.
pub said : {E : Type 0} (result : Result Tried E) (search : Straight) (f g : Held → List (Way Held))
    → ((held : Held) → f held ≡ g held)
    → IfOk result (λ tried. Says tried search f) → IfOk result (λ tried. Says tried search g)
said result search f g same = subst (λ h. IfOk result (λ tried. Says tried search h)) (λ i held. same held i)

-- What is said of ways is said of them with others behind them, unless there are none.
pub said_before : (tried : Tried) (search : Straight) (f g : Held → List (Way Held)) → (tried ≡ Failed → ⊥)
    → Says tried search f → Says tried search (λ held. f held ++ g held)
said_before Matched search f g some says = λ held. first_before (f held) (g held) _ (says held)
said_before Failed search f g some says = absurd (some refl)
said_before GaveUp search f g some says = tt

-- ---- nodes with parts

pub both_is : (text : List ℕ) (whole first second a b : Pattern) (next : Ways Held) (at : ℕ)
    → whole ≡ cat first second → a ≡ first → b ≡ second
    → (held : Held) → behind (last_ways text a) (behind (last_ways text b) next) at held
    ≡ behind (last_ways text whole) next at held
both_is text whole first second a b next at is one two held =
    rw (is, one, two)
    (ap (λ ways. ways at held) (sym (behind-behind (last_ways text first) (last_ways text second) next)))

pub either_is : (text : List ℕ) (whole first second a : Pattern) (next : Ways Held) (at : ℕ)
    → whole ≡ alt first second → a ≡ first
    → (held : Held) → behind (last_ways text a) next at held ++ behind (last_ways text second) next at held
    ≡ behind (last_ways text whole) next at held
either_is text whole first second a next at is one held =
    rw (is, one) (ap (λ ways. ways at held) (sym (behind-either (last_ways text first) (last_ways text second) next)))

pub second_is : (text : List ℕ) (whole first second a b : Pattern) (next : Ways Held) (at : ℕ)
    → whole ≡ alt first second → a ≡ first → b ≡ second
    → ((held : Held) → behind (last_ways text a) next at held ≡ [])
    → (held : Held) → behind (last_ways text b) next at held ≡ behind (last_ways text whole) next at held
second_is text whole first second a b next at is one two none held =
    rw two (sym (ap (λ found. found ++ behind (last_ways text second) next at held) (none held)))
    ∙ either_is text whole first second a next at is one held

pub group_is : (text : List ℕ) (whole body a : Pattern) (number : ℕ) (next : Ways Held) (at : ℕ)
    → whole ≡ group number body → a ≡ body
    → (held : Held)
    → behind (last_ways text a)
    (λ end held. next end (with_group number (record { start = at; end = end }) held)) at held
    ≡ behind (last_ways text whole) next at held
group_is text whole body a number next at is one held =
    rw (is, one)
    (sym (flat_map-map (λ way. next way.end way.held) (closed with_group number at) (last_ways text body at held)))

-- The setting of a group that is made last is the first one.
set_first : (held : Held) (setting : Setting) (settings : List Setting) → held_over held (settings ++ setting ∷ [])
    ≡ held_over (with_group setting.group setting.span held) settings
set_first held setting [] = refl
set_first held setting (newer ∷ settings) = ap (with_group newer.group newer.span) (set_first held setting settings)

pub set_over : (held : Held) (number start end : ℕ) (settings all : List Setting)
    → all ≡ settings ++ record { group = number; span = record { start = start; end = end } } ∷ []
    → held_over (with_group number (record { start = start; end = end }) held) settings ≡ held_over held all
set_over held number start end settings all is =
    sym (ap (held_over held) is
    ∙ set_first held (record { group = number; span = record { start = start; end = end } }) settings)

-- ---- one way, or none

pub only_way : (a next : Ways Held) (at end : ℕ) → ((held : Held) → a at held ≡ stop end held) → (held : Held)
    → next end held ≡ behind a next at held
only_way a next at end is held =
    sym (ap (flat_map (λ way. next way.end way.held)) (is held) ∙ append-nil (next end held))

pub same_way : (a b next : Ways Held) (at from : ℕ) → ((held : Held) → a at held ≡ b from held)
    → (held : Held) → behind a next at held ≡ behind b next from held
same_way a b next at from is held = ap (flat_map (λ way. next way.end way.held)) (is held)

-- ---- turns

turn_then : (bytes : ℕ) (body : Ways Held) (least : ℕ) (most : Option ℕ) (greedy : Bool) → 0 < least
    → less_than most least ≡ false
    → repeated bytes body least most greedy
    ≡ behind body (repeated bytes body (least - 1) (option_map (λ most. most - 1) most) greedy)
turn_then bytes body least None greedy some enough = first_turn_of_any bytes body least greedy some
turn_then bytes body least (Some most) greedy some enough =
    first_turn bytes body least most greedy some (ltb-false most least enough)

pub first_turn_is : (bytes : ℕ) (body next : Ways Held) (least : ℕ) (most : Option ℕ) (greedy : Bool) (at : ℕ)
    → 0 < least → less_than most least ≡ false
    → (held : Held)
    → behind body (behind (repeated bytes body (least - 1) (option_map (λ most. most - 1) most) greedy) next) at
    held ≡ behind (repeated bytes body least most greedy) next at held
first_turn_is bytes body next least most greedy at some enough held =
    ap (λ ways. ways at held)
    (sym (ap (λ ways. behind ways next) (turn_then bytes body least most greedy some enough)
    ∙ behind-behind body _ next))

some_turns : (bytes : ℕ) (body : Ways Held) (most : Option ℕ) (greedy : Bool)
    → false ≡ option_eq nat_eq most (Some 0) → true ≡ is_some most
    → repeated bytes body 0 most greedy
    ≡ preferred greedy (behind body (repeated bytes body 0 (option_map (λ most. most - 1) most) greedy))
some_turns bytes body None greedy more some = absurd (true≢false some)
some_turns bytes body (Some zero) greedy more some = absurd (true≢false (sym more))
some_turns bytes body (Some (suc most)) greedy more some = further_turn bytes body (suc most) greedy (omega arith)

pub further_turn_is : (bytes : ℕ) (body next : Ways Held) (least : ℕ) (most : Option ℕ) (greedy : Bool) (at : ℕ)
    → least ≤ 0
    → false ≡ option_eq nat_eq most (Some 0) → true ≡ is_some most
    → (held : Held)
    → preferring greedy
    (behind body (behind (repeated bytes body (least - 1) (option_map (λ most. most - 1) most) greedy) next)) next
    at held ≡ behind (repeated bytes body least most greedy) next at held
further_turn_is bytes body next least most greedy at low more some held =
    let none : least ≡ 0 = omega (arith, low) in
    rw none
    (ap (λ ways. ways at held)
    (sym (ap (λ ways. behind ways next) (some_turns bytes body most greedy more some)
    ∙ behind-preferred greedy _ next
    ∙ ap (λ turn. turn_or_next greedy turn next) (behind-behind body _ next))))

same_turn : (greedy : Bool) (a b next : Ways Held) (at : ℕ) (held : Held) → a at held ≡ b at held
    → preferring greedy a next at held ≡ preferring greedy b next at held
same_turn true a b next at held same = ap (λ l. l ++ next at held) same
same_turn false a b next at held same = ap (λ l. next at held ++ l) same

endless : (text : List ℕ) (body : Pattern) (next : Ways Held) (greedy : Bool) (at : ℕ) (held : Held)
    → preferring greedy
    (behind (last_ways text body)
    (λ end held. if nat_lt at end then behind (any_turns greedy (last_ways text body) (length text)) next end held
    else [])) next at held
    ≡ behind (any_turns greedy (last_ways text body) (length text)) next at held
endless text body next greedy at held =
    let turn = last_ways text body in
    let turns = any_turns greedy turn (length text) in
    sym (ap (λ ways. behind ways next at held) (any_turns_is text greedy turn (bounded with_group text body))
    ∙ ap (λ ways. ways at held) (behind-preferred greedy (behind (moving turn) turns) next)
    ∙ same_turn greedy (behind (behind (moving turn) turns) next)
    (behind turn (λ end held. if nat_lt at end then behind turns next end held else [])) next at held
    (ap (λ ways. ways at held) (behind-behind (moving turn) turns next) ∙ flat_map-filter _ _ (turn at held)))

pub any_turn_is : (text : List ℕ) (body : Pattern) (next : Ways Held) (least : ℕ) (most : Option ℕ)
    (greedy : Bool) (at : ℕ) → least ≤ 0
    → false ≡ is_some most
    → (held : Held)
    → preferring greedy
    (behind (last_ways text body)
    (λ end held. if nat_lt at end
    then behind
    (repeated (length text) (last_ways text body) (least - 1) (option_map (λ most. most - 1) most) greedy) next end
    held else [])) next at held
    ≡ behind (repeated (length text) (last_ways text body) least most greedy) next at held
any_turn_is text body next least (Some most) greedy at low endless held = absurd (true≢false (sym endless))
any_turn_is text body next least None greedy at low none held =
    let zero_least : least ≡ 0 = omega (arith, low) in
    rw zero_least (endless text body next greedy at held)

-- A repeat of a body that matches one byte.
pub run_of_is : (bytes : ℕ) (body one next : Ways Held) (least : ℕ) (most : Option ℕ) (greedy : Bool) (at : ℕ)
    (found : Held → List (Way Held))
    → ((at : ℕ) (held : Held) → body at held ≡ one at held)
    → ((held : Held) → behind (repeated bytes one least most greedy) next at held ≡ found held)
    → (held : Held) → found held ≡ behind (repeated bytes body least most greedy) next at held
run_of_is bytes body one next least most greedy at found same is held =
    sym (ap (λ body. behind (repeated bytes body least most greedy) next at held) (same_ways body one same)
    ∙ is held)
