-- How a glob is read.
use Rattle.hc_pattern.proofs.Common.{◌≡◌, ℕ, zero, suc, ◌+◌, ◌-◌, ◌<◌, ◌==◌, Bool, true, false}
use Rattle.hc_pattern.proofs.Common.{not, ◌&&◌, ◌||◌, List, [], ◌∷◌, ◌++◌, Result, Ok, Err, refl, sym}
use Rattle.hc_pattern.proofs.Common.{ap, ◌∙◌, append_assoc, arith, length, drop, get_or, ◌≤◌, map-append}
use Rattle.hc_pattern.proofs.Common.{map, GlobPiece, before_all, in_a_row, marks_from, may_be, more_of, patterns_of}
use Rattle.hc_pattern.proofs.Common.{piece_at, piece_pattern, pieces_of, Pattern, cat, finish, pattern_of}
use Rattle.hc_pattern.proofs.Rests.{next_item}
use Rattle.hc_base.specs.declared.fault.AtByte.{AtByte}
use Rattle.hc_pattern.specs.declared.mark.Mark.{Mark}
use Rattle.hc_pattern.specs.declared.pat.Pat.{Pat}

pub unescaped : (at b c : ℕ) (text more rest : List ℕ) → text ≡ b ∷ more → more ≡ c ∷ rest
    → (b == 92) ≡ false
    → marks_from at text ≡ record { byte = b; plain = false; at = at } ∷ marks_from (at + 1) more
unescaped at b c text more rest first second is = rw (first, second, is) refl

pub escaped : (at b c : ℕ) (text more rest : List ℕ) → text ≡ b ∷ more → more ≡ c ∷ rest
    → (b == 92) ≡ true
    → marks_from at text ≡ record { byte = c; plain = true; at = at } ∷ marks_from (at + 2) rest
escaped at b c text more rest first second is = rw (first, second, is) refl

-- ---- the patterns of pieces

-- Patterns that are there already, and others behind them.
abbrev pub behind : List Pattern → Result (List Pattern) AtByte → Result (List Pattern) AtByte
behind patterns (Err refusal) = Err refusal
behind patterns (Ok others) = Ok (patterns ++ others)

-- ---- slashes

kept_step : (t e : Bool) → not (not t || e) ≡ (not (true && e) && t)
kept_step true true = refl
kept_step true false = refl
kept_step false true = refl
kept_step false false = refl

pub kept_is : (keeps : Bool) (b : ℕ) (has other more kept test : Bool) → keeps ≡ true → has ≡ test
    → other ≡ not has → more ≡ (other || (b == 47)) → kept ≡ not more → kept ≡ (may_be keeps b && test)
kept_is keeps b has other more kept test on is first second third =
    rw (third, second, first, is, on) (kept_step test (b == 47))

pub one_passed : (passed : ℕ) (mark : Mark) (marks : List Mark) → 0 < passed → pieces_of passed (mark ∷ marks)
    ≡ pieces_of (passed - 1) marks
one_passed zero mark marks some = absurd (omega arith)
one_passed (suc passed) mark marks some = let e : suc passed - 1 ≡ passed = omega arith in rw e refl

one_more : (done : List Pattern) (pattern : Pattern) (others : Result (List Pattern) AtByte)
    → behind done (before_all (Ok pattern) others) ≡ behind (done ++ pattern ∷ []) others
one_more done pattern (Err refusal) = refl
one_more done pattern (Ok others) = ap Ok (sym (append_assoc done (pattern ∷ []) others))

more_patterns : (keeps : Bool) (pats all : List Pat) (pat : Pat) (mark : Mark) (marks : List Mark)
    → all ≡ pats ++ pat ∷ [] → piece_pattern keeps (piece_at mark marks) ≡ Ok (pattern_of pat)
    → behind (map pattern_of pats) (patterns_of keeps (pieces_of 0 (mark ∷ marks))) ≡ behind (map pattern_of all)
    (patterns_of keeps (pieces_of (more_of (piece_at mark marks)) marks))
more_patterns keeps pats all pat mark marks is read =
    let more = patterns_of keeps (pieces_of (more_of (piece_at mark marks)) marks) in
    ap (λ first. behind (map pattern_of pats) (before_all first more)) read
    ∙ one_more (map pattern_of pats) (pattern_of pat) more
    ∙ ap (λ l. behind l more) (sym (map-append pattern_of pats (pat ∷ [])))
    ∙ ap (λ l. behind (map pattern_of l) more) (sym is)

-- The next byte belongs to a piece before.
pub passed_step : (keeps : Bool) (pats : List Pat) (marks : List Mark) (passed i : ℕ) (mark : Mark)
    → i < length marks → 0 < passed
    → behind (map pattern_of pats) (patterns_of keeps (pieces_of (passed - 1) (drop (i + 1) marks)))
    ≡ behind (map pattern_of pats) (patterns_of keeps (pieces_of passed (drop i marks)))
passed_step keeps pats marks passed i mark within some =
    ap (λ pieces. behind (map pattern_of pats) (patterns_of keeps pieces))
    (sym (ap (pieces_of passed) (next_item marks i mark within) ∙ one_passed passed (get_or marks i mark)
    (drop (i + 1) marks) some))

-- The next byte begins a piece.
pub piece_step : (keeps : Bool) (pats all : List Pat) (pat : Pat) (marks : List Mark) (passed more i : ℕ)
    (piece : GlobPiece) (mark : Mark) → i < length marks → passed ≤ 0
    → piece ≡ piece_at (get_or marks i mark) (drop (i + 1) marks) → more ≡ more_of piece
    → piece_pattern keeps piece ≡ Ok (pattern_of pat) → all ≡ pats ++ pat ∷ []
    → behind (map pattern_of all) (patterns_of keeps (pieces_of more (drop (i + 1) marks)))
    ≡ behind (map pattern_of pats) (patterns_of keeps (pieces_of passed (drop i marks)))
piece_step keeps pats all pat marks passed more i piece mark within none same follow read added =
    let rest = drop (i + 1) marks in
    let zero_passed : passed ≡ 0 = omega arith in
    ap (λ n. behind (map pattern_of all) (patterns_of keeps (pieces_of n rest))) (follow ∙ ap more_of same)
    ∙ sym (more_patterns keeps pats all pat (get_or marks i mark) rest added
    (ap (piece_pattern keeps) (sym same) ∙ read))
    ∙ ap (λ l. behind (map pattern_of pats) (patterns_of keeps (pieces_of 0 l)))
    (sym (next_item marks i mark within))
    ∙ ap (λ n. behind (map pattern_of pats) (patterns_of keeps (pieces_of n (drop i marks)))) (sym zero_passed)

-- ---- one behind the other

abbrev pub row_before : List Pattern → Pattern → Pattern
row_before [] last = last
row_before (one ∷ more) last = cat one (row_before more last)

pub row_before-last : (patterns : List Pattern) (one last : Pattern) → row_before (patterns ++ one ∷ []) last
    ≡ row_before patterns (cat one last)
row_before-last [] one last = refl
row_before-last (first ∷ patterns) one last = ap (cat first) (row_before-last patterns one last)

pub row_before-finish : (patterns : List Pattern) → row_before patterns finish ≡ in_a_row patterns
row_before-finish [] = refl
row_before-finish (one ∷ more) = ap (cat one) (row_before-finish more)

-- The last pattern is put before what is there.
pub row_step : (pats fewer : List Pat) (one pat whole : Pat) → pats ≡ fewer ++ one ∷ []
    → pattern_of whole ≡ cat (pattern_of one) (pattern_of pat)
    → row_before (map pattern_of fewer) (pattern_of whole) ≡ row_before (map pattern_of pats) (pattern_of pat)
row_step pats fewer one pat whole is made =
    ap (row_before (map pattern_of fewer)) made
    ∙ sym (row_before-last (map pattern_of fewer) (pattern_of one) (pattern_of pat))
    ∙ ap (λ l. row_before l (pattern_of pat)) (sym (map-append pattern_of fewer (one ∷ [])))
    ∙ ap (λ l. row_before (map pattern_of l) (pattern_of pat)) (sym is)
