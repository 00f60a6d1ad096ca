-- The lines of a text, read run by run.
use Rattle.hc_lines.proofs.Common.{◌≡◌, ℕ, ◌+◌, ◌≤◌, List, [], ◌∷◌, ◌++◌, length, refl, sym}
use Rattle.hc_lines.proofs.Common.{◌∙◌, ap, arith, append_assoc, append-nil, Option, Some, None, Result, Ok, Err}
use Rattle.hc_lines.proofs.Common.{length-append, cons_option, pieces, before, line_at, lines_from, lines_of, runs}
use Rattle.hc_lines.proofs.Common.{then_lines, StartsWith}
use Rattle.hc_base.specs.declared.fault.AtLine.{AtLine}
use Rattle.hc_lines.specs.declared.line.FileKind.{FileKind}
use Rattle.hc_lines.specs.declared.line.Line.{Line}

-- the lines so far, and what the rest gives
pub record IsRead (file : FileKind) (text rest : List ℕ) (number place : ℕ) (lines : List Line) : Type 0 where
  pub so_far : before lines (lines_from file number place (runs (pieces rest))) ≡ lines_of file text
  pub placed : place + length rest ≡ length text
  pub numbered : number ≤ place + 1

before-nil : (r : Result (List Line) AtLine) → before [] r ≡ r
before-nil (Ok lines) = refl
before-nil (Err e) = refl

before-before : (first second : List Line) (r : Result (List Line) AtLine) → before first (before second r)
    ≡ before (first ++ second) r
before-before first second (Ok lines) = ap Ok (sym (append_assoc first second lines))
before-before first second (Err e) = refl

pub IsRead-start : (file : FileKind) (text : List ℕ) → IsRead file text text 1 0 []
unfolding lines_of
IsRead-start file text =
    record { so_far = before-nil (lines_of file text); placed = omega arith; numbered = omega arith }

-- what a run gives stands first
unfolded : (file : FileKind) (rest bytes behind : List ℕ) (number place count : ℕ)
    → StartsWith rest bytes count behind → lines_from file number place (runs (pieces rest))
    ≡ then_lines (line_at file number place count bytes)
    (lines_from file (number + count) (place + length bytes) (runs (pieces behind)))
unfolded file rest bytes behind number place count s = rw (s.cut, s.of_bytes, s.of_count) refl

advanced : (file : FileKind) (text rest bytes behind : List ℕ) (number place count : ℕ) (lines more : List Line)
    → IsRead file text rest number place lines → StartsWith rest bytes count behind
    → before more (lines_from file (number + count) (place + length bytes) (runs (pieces behind)))
    ≡ before lines (lines_from file number place (runs (pieces rest)))
    → IsRead file text behind (number + count) (place + length bytes) more
advanced file text rest bytes behind number place count lines more read s same =
    let e : length rest ≡ length bytes + length behind = rw (s.whole, length-append) refl in
    record {
      so_far = same ∙ read.so_far;
      placed = omega (arith, read.placed, e);
      numbered = omega (arith, read.numbered, s.within);
    }

next_of : (lines : List Line) (line : Option Line) (more : Result (List Line) AtLine)
    → before (lines ++ cons_option line []) more ≡ before lines (then_lines (Ok line) more)
next_of lines None more = rw append-nil refl
next_of lines (Some line) more = sym (before-before lines (line ∷ []) more)

pub IsRead-next : (file : FileKind) (text rest bytes behind : List ℕ) (number place count : ℕ)
    (lines more : List Line) (line : Option Line) → IsRead file text rest number place lines
    → StartsWith rest bytes count behind → line_at file number place count bytes ≡ Ok line
    → more ≡ lines ++ cons_option line [] → IsRead file text behind (number + count) (place + length bytes) more
IsRead-next file text rest bytes behind number place count lines more line read s is added =
    advanced file text rest bytes behind number place count lines _ read s
    (rw (unfolded file rest bytes behind number place count s, is, added) (next_of lines line _))
