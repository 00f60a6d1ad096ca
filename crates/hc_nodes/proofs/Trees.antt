-- Lines have a tree exactly where they break no rule, and then one alone.
use Rattle.hc_nodes.proofs.Common.{◌≡◌, ℕ, ◌+◌, ◌-◌, ◌<◌, ◌≤◌, List, [], ◌∷◌, ◌++◌}
use Rattle.hc_nodes.proofs.Common.{length, drop, Bool, true, false, refl, sym, ap, ◌∙◌, append_assoc, append-nil}
use Rattle.hc_nodes.proofs.Common.{drop-drop, Option, Some, None, inl, inr, subst, arith, cases_Bool, cond_both}
use Rattle.hc_nodes.proofs.Common.{and_from, not_from_false, begins_with, less, Line, followed, is_close, is_opening}
use Rattle.hc_nodes.proofs.Common.{is_complete, closes, Nodes, none, directive, block, directive_at, block_at, Reads}
use Rattle.hc_nodes.proofs.Common.{open_behind, rule_broken, closes_innermost, most_open, refusals, with_broken}
use Rattle.hc_nodes.proofs.Common.{first_of_all, or_earlier, comes_first, refusal_of, unless_refused, nodes_of, next_of}
use Rattle.hc_nodes.proofs.Common.{with_line, levels_of, IsOnlyTree}
use Rattle.hc_base.specs.declared.fault.AtLine.{AtLine}
use Rattle.hc_nodes.proofs.Building.{followed-none}
use Rattle.hc_nodes.proofs.Steps.{close_open, close_broken, close_with, is_close-closes, directive_open}
use Rattle.hc_nodes.proofs.Steps.{directive_broken, directive_with, opening_parts, opening_open, opening_broken}
use Rattle.hc_nodes.proofs.Steps.{opening_with, close_unbroken, opening_unbroken}

-- ---- what has a tree breaks no rule

levels_some : (lines : List Line) → levels_of lines ≡ next_of (levels_of lines) ∷ drop 1 (levels_of lines)
levels_some [] = refl
levels_some (line ∷ lines) =
    let Some_first : List Nodes → Type 0 = λ levels. levels ≡ next_of levels ∷ drop 1 levels in
    cond_both (is_close line) _ _ Some_first (λ _. refl)
    (λ _. cond_both (is_opening line) _ _ Some_first (λ _. refl) (λ _. refl))

levels_read : (nodes : Nodes) (room : ℕ) (lines more : List Line) → Reads room nodes lines
    → levels_of (lines ++ more) ≡ followed nodes (next_of (levels_of more)) ∷ drop 1 (levels_of more)
levels_read none room lines more r = ap (λ l. levels_of (l ++ more)) r ∙ levels_some more
levels_read (directive line name rest next) room lines more r =
    ap (λ l. levels_of (l ++ more)) r.1 ∙ ap (with_line line) (levels_read next room r.0 more r.5)
    ∙ rw (r.3, r.4) (directive_with line _ r.2)
levels_read (block line name args body next) room lines more r =
    let rest = r.2 ++ more in
    let opening = opening_parts line r.5 in
    let behind : levels_of (r.1 ∷ rest) ≡ none ∷ followed next (next_of (levels_of more))
    ∷ drop 1 (levels_of more) =
    close_with r.1 _ (is_close-closes line r.1 r.6)
    ∙ ap (λ levels. none ∷ levels) (levels_read next room r.2 more r.10) in
    let within : levels_of (r.0 ++ r.1 ∷ rest) ≡ body ∷ followed next (next_of (levels_of more))
    ∷ drop 1 (levels_of more) =
    levels_read body _ r.0 (r.1 ∷ rest) r.9 ∙ rw (behind, followed-none body) refl in
    ap (λ l. levels_of (l ++ more)) r.3 ∙ ap (λ l. with_line line (levels_of l))
    (append_assoc r.0 (r.1 ∷ r.2) more) ∙ ap (with_line line) within
    ∙ rw (r.7, r.8) (opening_with line _ opening.1 opening.0)

refusals_read : (nodes : Nodes) (room : ℕ) (lines more open_lines : List Line) → Reads room nodes lines
    → room + length open_lines ≤ most_open → refusals open_lines (lines ++ more) ≡ refusals open_lines more
refusals_read none room lines more open_lines r few = ap (λ l. refusals open_lines (l ++ more)) r
refusals_read (directive line name rest next) room lines more open_lines r few =
    ap (λ l. refusals open_lines (l ++ more)) r.1
    ∙ rw (directive_broken line open_lines r.2, directive_open line open_lines r.2)
    (refusals_read next room r.0 more open_lines r.5 few)
refusals_read (block line name args body next) room lines more open_lines r few =
    let rest = r.1 ∷ r.2 ++ more in
    let opening : refusals open_lines (line ∷ r.0 ++ rest) ≡ refusals (line ∷ open_lines) (r.0 ++ rest) =
    rw (opening_broken line open_lines r.5 (omega (arith, r.4)), opening_open line open_lines r.5) refl in
    let closing : refusals (line ∷ open_lines) rest ≡ refusals open_lines (r.2 ++ more) =
    rw (close_broken line r.1 open_lines r.6, close_open line r.1 open_lines r.6) refl in
    ap (λ l. refusals open_lines (l ++ more)) r.3
    ∙ ap (refusals open_lines) (append_assoc (line ∷ r.0) (r.1 ∷ r.2) more) ∙ opening
    ∙ refusals_read body (room - 1) r.0 rest (line ∷ open_lines) r.9 (omega (arith, r.4)) ∙ closing
    ∙ refusals_read next room r.2 more open_lines r.10 few

-- ---- what breaks no rule has a tree

abbrev Outer : List Line → List Nodes → List Line → Type 0
Outer [] levels lines = lines ≡ []
Outer (opening ∷ open_lines) levels lines =
    (close : Line) × (inside : List Line) × (more : List Line) × (lines ≡ close ∷ inside ++ more)
    × (closes opening close ≡ true)
    × Reads (most_open - length open_lines) (next_of levels) inside × Outer open_lines (drop 1 levels) more

-- The levels are those of the lines behind these openings.
abbrev Held : List Line → List Nodes → List Line → Type 0
Held open_lines levels lines =
    (inside : List Line) × (more : List Line) × (lines ≡ inside ++ more)
    × Reads (most_open - length open_lines) (next_of levels) inside × Outer open_lines (drop 1 levels) more

no_refusal : (line : Line) (broken : Option ℕ) (later : List AtLine) → with_broken line broken later ≡ []
    → (broken ≡ None) × (later ≡ [])
no_refusal line None later is = (refl, is)
no_refusal line (Some code) later is = cc

pub unbroken : (line : Line) (lines open_lines : List Line) → refusals open_lines (line ∷ lines) ≡ []
    → (rule_broken open_lines line ≡ None) × (refusals (open_behind open_lines line) lines ≡ [])
unbroken line lines open_lines =
    no_refusal line (rule_broken open_lines line) (refusals (open_behind open_lines line) lines)

held_close : (line : Line) (lines open_lines : List Line) (levels : List Nodes) → is_close line ≡ true
    → closes_innermost open_lines line ≡ true → Held (drop 1 open_lines) levels lines
    → Held open_lines (none ∷ levels) (line ∷ lines)
held_close line lines [] levels is closing h = cc
held_close line lines (opening ∷ open_lines) levels is closing h =
    ([], line ∷ lines, refl, refl, (line, h.0, h.1, ap (λ l. line ∷ l) h.2, closing, h.3, h.4))

held_opening : (line : Line) (lines open_lines : List Line) (levels : List Nodes) → is_complete line ≡ true
    → length open_lines < most_open → Held (line ∷ open_lines) levels lines
    → Held open_lines (block_at line (next_of levels) (next_of (drop 1 levels)) ∷ drop 2 levels) (line ∷ lines)
held_opening line lines open_lines levels is few h =
    let outer = h.4 in
    let close = outer.0 in
    let lines_are : lines ≡ (h.0 ++ close ∷ outer.1) ++ outer.2 = h.2 ∙ ap (λ l. h.0 ++ l) outer.3
    ∙ sym (append_assoc h.0 (close ∷ outer.1) outer.2) in
    let room : most_open - length (line ∷ open_lines) ≡ most_open - length open_lines - 1 = omega arith in
    let body = subst (λ n. Reads n (next_of levels) h.0) room h.3 in (
      line ∷ h.0 ++ close ∷ outer.1,
      outer.2,
      ap (λ l. line ∷ l) lines_are,
      (h.0, close, outer.1, refl, omega arith, is, outer.4, refl, refl, body, outer.5),
      subst (λ l. Outer open_lines l outer.2) (drop-drop 1 1 levels) outer.6,
    )

held_directive : (line : Line) (lines open_lines : List Line) (levels : List Nodes) → begins_with less line.text
    ≡ false → Held open_lines levels lines
    → Held open_lines (directive_at line (next_of levels) ∷ drop 1 levels) (line ∷ lines)
held_directive line lines open_lines levels is h =
    (line ∷ h.0, h.1, ap (λ l. line ∷ l) h.2, (h.0, refl, is, refl, refl, h.3), h.4)

held : (lines open_lines : List Line) → refusals open_lines lines ≡ [] → Held open_lines (levels_of lines) lines
held [] [] free = ([], [], refl, refl, refl)
held [] (opening ∷ open_lines) free = cc
held (line ∷ lines) open_lines free =
    let parts = unbroken line lines open_lines free in
    let later : (behind : List Line) → open_behind open_lines line ≡ behind
    → Held behind (levels_of lines) lines =
    λ behind is. held lines behind (ap (λ o. refusals o lines) (sym is) ∙ parts.1) in
    elim (cases_Bool (begins_with less line.text)) [
      | inr plain ↦ rw (directive_with line (levels_of lines) plain)
          (held_directive line lines open_lines (levels_of lines) plain
          (later open_lines (directive_open line open_lines plain)))
      | inl bracket ↦ elim (cases_Bool (is_close line)) [
        | inl is ↦
            let closing = close_unbroken line open_lines is parts.0 in
            rw (close_with line (levels_of lines) is)
            (held_close line lines open_lines (levels_of lines) is closing
            (later (drop 1 open_lines) (rw (is, closing) refl)))
        | inr isnt ↦
            let is = and_from _ _ bracket (not_from_false (is_close line) isnt) in
            let opening = opening_unbroken line open_lines is isnt parts.0 in
            rw (opening_with line (levels_of lines) is isnt)
            (held_opening line lines open_lines (levels_of lines) opening.0 opening.1
            (later (line ∷ open_lines) (opening_open line open_lines opening.0)))
      ]
    ]

-- ---- both

earlier_some : (a b : AtLine) (v : Bool) → comes_first a b ≡ v → or_earlier a (Some b) ≡ None → ⊥
earlier_some a b true e is = let never = rw e at is in cc
earlier_some a b false e is = let never = rw e at is in cc

some_refusal : (a : AtLine) (o : Option AtLine) → or_earlier a o ≡ None → ⊥
some_refusal a None is = cc
some_refusal a (Some b) is = earlier_some a b _ refl is

pub first_none : (all : List AtLine) → first_of_all all ≡ None → all ≡ []
first_none [] is = refl
first_none (a ∷ all) is = absurd (some_refusal a (first_of_all all) is)

only_tree : (lines : List Line) (refusal : Option AtLine) → refusal_of lines ≡ refusal
    → IsOnlyTree (unless_refused refusal (next_of (levels_of lines))) lines
only_tree lines None is =
    let h = held lines [] (first_none _ is) in
    let whole : lines ≡ h.0 = h.2 ∙ ap (λ l. h.0 ++ l) h.4 ∙ append-nil h.0 in
    let only : (other : Nodes) → Reads most_open other lines → other ≡ next_of (levels_of lines) = λ other reads.
    sym (ap (λ l. next_of (levels_of l)) (sym (append-nil lines))
    ∙ ap next_of (levels_read other most_open lines [] reads) ∙ followed-none other) in
    (subst (λ l. Reads most_open (next_of (levels_of lines)) l) (sym whole) h.3, only)
only_tree lines (Some refusal) is = λ other reads.
    let free : refusals [] lines ≡ [] = ap (refusals []) (sym (append-nil lines))
    ∙ refusals_read other most_open lines [] [] reads (omega arith) in
    let never : None ≡ Some refusal = sym (ap first_of_all free) ∙ is in cc

pub lines_have_one_tree : (lines : List Line) → IsOnlyTree (nodes_of lines) lines
unfolding nodes_of
lines_have_one_tree lines = only_tree lines _ refl
