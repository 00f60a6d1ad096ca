-- What a line of each kind does.
use Rattle.hc_nodes.proofs.Common.{◌≡◌, ℕ, ◌+◌, ◌<◌, List, ◌∷◌, length, drop, get_or, drop-cons}
use Rattle.hc_nodes.proofs.Common.{add-one, Bool, true, false, refl, sym, ◌∙◌, None, and_parts, and_from}
use Rattle.hc_nodes.proofs.Common.{not-true, not_from_false, lt-leb, leb-false, begins_with, less, Line, is_close}
use Rattle.hc_nodes.proofs.Common.{is_opening, is_complete, closes, Nodes, none, directive_at, block_at, open_behind}
use Rattle.hc_nodes.proofs.Common.{rule_broken, closes_innermost, most_open, next_of, with_line}
use Rattle.std.specs.Prelude.{nat_le}
use Rattle.hc_nodes.proofs.Closes.{closes_are}

-- ---- the lines ahead

pub ahead : (lines : List Line) (i : ℕ) (line : Line) → i < length lines → line ≡ get_or lines i line
    → drop i lines ≡ line ∷ drop (i + 1) lines
ahead lines i line within is = drop-cons lines i line within ∙ rw (sym is, add-one) refl

-- ---- a close

pub is_close-closes : (opening line : Line) → closes opening line ≡ true → is_close line ≡ true
is_close-closes opening line is = rw (closes_are line.text _ is).1 refl

pub close_open : (opening line : Line) (open_lines : List Line) → closes opening line ≡ true
    → open_behind (opening ∷ open_lines) line ≡ open_lines
close_open opening line open_lines is = rw (is_close-closes opening line is, is) refl

pub close_broken : (opening line : Line) (open_lines : List Line) → closes opening line ≡ true
    → rule_broken (opening ∷ open_lines) line ≡ None
close_broken opening line open_lines is = rw (is_close-closes opening line is, is) refl

pub close_with : (line : Line) (levels : List Nodes) → is_close line ≡ true
    → with_line line levels ≡ none ∷ levels
close_with line levels is = rw is refl

-- ---- a directive

pub directive_open : (line : Line) (open_lines : List Line) → begins_with less line.text ≡ false
    → open_behind open_lines line ≡ open_lines
directive_open line open_lines is = rw is refl

pub directive_broken : (line : Line) (open_lines : List Line) → begins_with less line.text ≡ false
    → rule_broken open_lines line ≡ None
directive_broken line open_lines is = rw is refl

pub directive_with : (line : Line) (levels : List Nodes) → begins_with less line.text ≡ false
    → with_line line levels ≡ directive_at line (next_of levels) ∷ drop 1 levels
directive_with line levels is = rw is refl

-- ---- an opening

pub opening_parts : (line : Line) → is_complete line ≡ true → (is_close line ≡ false)
    × (is_opening line ≡ true)
opening_parts line is =
    let opening = (and_parts (is_opening line) _ is).0 in
    (not-true (is_close line) (and_parts (begins_with less line.text) _ opening).1, opening)

pub opening_open : (line : Line) (open_lines : List Line) → is_complete line ≡ true → open_behind open_lines line
    ≡ line ∷ open_lines
opening_open line open_lines is = rw (is, (opening_parts line is).0) refl

pub opening_broken : (line : Line) (open_lines : List Line) → is_complete line ≡ true
    → length open_lines < most_open → rule_broken open_lines line ≡ None
opening_broken line open_lines is few =
    let parts = opening_parts line is in
    rw (is, parts.1, parts.0, lt-leb most_open (length open_lines) few) refl

pub opening_with : (line : Line) (levels : List Nodes) → is_opening line ≡ true → is_close line ≡ false
    → with_line line levels ≡ block_at line (next_of levels) (next_of (drop 1 levels)) ∷ drop 2 levels
opening_with line levels is isnt = rw (is, isnt) refl

-- ---- a line that breaks no rule

section_closed : (line : Line) (open_lines : List Line) (v : Bool) → closes_innermost open_lines line ≡ v
    → is_close line ≡ true → rule_broken open_lines line ≡ None → closes_innermost open_lines line ≡ true
section_closed line open_lines true e is unbroken = e
section_closed line open_lines false e is unbroken = let never = rw (is, e) at unbroken in cc

pub close_unbroken : (line : Line) (open_lines : List Line) → is_close line ≡ true → rule_broken open_lines line
    ≡ None → closes_innermost open_lines line ≡ true
close_unbroken line open_lines = section_closed line open_lines _ refl

opened : (line : Line) (open_lines : List Line) (v w : Bool) → is_complete line ≡ v
    → nat_le most_open (length open_lines) ≡ w → is_opening line ≡ true → is_close line ≡ false
    → rule_broken open_lines line ≡ None → (is_complete line ≡ true) × (length open_lines < most_open)
opened line open_lines true false e few is isnt unbroken = (e, leb-false most_open (length open_lines) few)
opened line open_lines true true e few is isnt unbroken = let never = rw (e, is, isnt, few) at unbroken in cc
opened line open_lines false w e few is isnt unbroken = let never = rw (e, is, isnt) at unbroken in cc

pub opening_unbroken : (line : Line) (open_lines : List Line) → is_opening line ≡ true → is_close line ≡ false
    → rule_broken open_lines line ≡ None → (is_complete line ≡ true) × (length open_lines < most_open)
opening_unbroken line open_lines = opened line open_lines _ _ refl refl

plain : (line : Line) (open_lines : List Line) (v : Bool) → begins_with less line.text ≡ v
    → is_close line ≡ false → is_complete line ≡ false → rule_broken open_lines line ≡ None
    → begins_with less line.text ≡ false
plain line open_lines false e isnt incomplete unbroken = e
plain line open_lines true e isnt incomplete unbroken =
    let never =
    (opening_unbroken line open_lines (and_from _ _ e (not_from_false (is_close line) isnt)) isnt unbroken).0 in
    cc

pub plain_unbroken : (line : Line) (open_lines : List Line) → is_close line ≡ false → is_complete line ≡ false
    → rule_broken open_lines line ≡ None → begins_with less line.text ≡ false
plain_unbroken line open_lines = plain line open_lines _ refl
