-- The logical lines of a configuration text.
-- Apache manual, "Configuration Files": a directive stands on one line; a backslash as the last
-- character of a line continues it on the next; white space before a directive and blank lines are
-- ignored; a line that begins with `#` is a comment. The CR before an LF, comments that continue,
-- numbers, spans and the two refusals are our own choice.
use Rattle.std.specs.Prelude.{◌≡◌, ℕ, ◌+◌, ◌-◌, ◌*◌, ◌==◌, ◌<◌, ◌≤◌, List, []}
use Rattle.std.specs.Prelude.{◌∷◌, ◌++◌, length, Bool, true, false, not, ◌&&◌, if◌then◌else◌}
use Rattle.std.specs.Prelude.{nat_eq, nat_lt, Option, Some, None, Result, Ok, Err, ⊤, slice_range}
use Rattle.std.specs.List.{AllByRecursion, concat, list_any, flat_map, ends_with as ends_with_all}
use Rattle.hc_base.specs.Bytes.{backslash, begins_with, cr, ends_with, hash, is_control, lf, tab}
use Rattle.hc_base.specs.Lines.{is_blank, is_lf, pieces}
use Rattle.hc_base.specs.declared.codes.TheConstants.{CONTROL_BYTE, LINE_TOO_LONG}
use Rattle.hc_base.specs.declared.fault.AtLine.{AtLine}
use Rattle.hc_lines.specs.declared.line.FileKind.{FileKind}
use Rattle.hc_lines.specs.declared.line.FileKind.TheVariants.{Config, Htaccess}
use Rattle.hc_lines.specs.declared.line.Line.{Line}
use Rattle.hc_lines.specs.declared.logical.TheConstants.{LONGEST_HTACCESS_LINE, LONGEST_LINE}

-- ---- physical lines

-- A backslash and the LF behind it, which join two physical lines.
abbrev pub is_join : ℕ → ℕ → Bool
is_join b c = (b == backslash) && is_lf c

-- A physical line ends so.
abbrev pub joins : List ℕ → Bool
joins piece = ends_with_all nat_eq piece (backslash ∷ lf ∷ [])

-- ---- runs

abbrev pub onto_run : List ℕ → List (List (List ℕ)) → List (List (List ℕ))
onto_run piece [] = (piece ∷ []) ∷ []
onto_run piece (run ∷ runs) = (piece ∷ run) ∷ runs

-- The logical lines, as runs of physical lines: one that joins goes on with the next one.
abbrev pub runs : List (List ℕ) → List (List (List ℕ))
runs [] = []
runs (piece ∷ pieces) = if joins piece then onto_run piece (runs pieces) else (piece ∷ []) ∷ runs pieces

-- At least one physical line, and all but the last join.
abbrev pub IsRun : List (List ℕ) → Type 0
IsRun [] = ⊥
IsRun (piece ∷ []) = ⊤
IsRun (piece ∷ next ∷ run) = (joins piece ≡ true) × IsRun (next ∷ run)

abbrev pub EndsUnjoined : List (List ℕ) → Type 0
EndsUnjoined [] = ⊥
EndsUnjoined (piece ∷ []) = joins piece ≡ false
EndsUnjoined (piece ∷ next ∷ run) = EndsUnjoined (next ∷ run)

-- No run could go on: the last line of each but the last run doesn't join.
abbrev pub AreMaximal : List (List (List ℕ)) → Type 0
AreMaximal [] = ⊤
AreMaximal (run ∷ []) = ⊤
AreMaximal (run ∷ next ∷ runs) = EndsUnjoined run × AreMaximal (next ∷ runs)

abbrev pub all_of : List (List (List ℕ)) → List (List ℕ)
all_of runs = flat_map (λ run. run) runs

-- A cut of physical lines into maximal runs.
pub record IsCutIntoRuns (pieces : List (List ℕ)) (runs : List (List (List ℕ))) : Type 0 where
  pub whole : all_of runs ≡ pieces
  pub each : AllByRecursion IsRun runs
  pub maximal : AreMaximal runs

-- `runs` is the one way to cut physical lines so, and `pieces` cut the text.
pub record AreRunsOf (text : List ℕ) : Type 0 where
  pub text_whole : concat (pieces text) ≡ text
  pub cut : IsCutIntoRuns (pieces text) (runs (pieces text))
  pub only : (other : List (List (List ℕ))) → IsCutIntoRuns (pieces text) other → other ≡ runs (pieces text)

-- ---- one line

-- The text without this byte at its end.
abbrev pub without_last : ℕ → List ℕ → List ℕ
without_last byte [] = []
without_last byte (b ∷ []) = if b == byte then [] else b ∷ []
without_last byte (b ∷ c ∷ bs) = b ∷ without_last byte (c ∷ bs)

-- The text without the LF, or the CR and LF, that ends it.
abbrev pub without_end : List ℕ → List ℕ
without_end text = if ends_with lf text then without_last cr (without_last lf text) else text

-- A text from its first byte on that is neither a blank nor of a join.
abbrev pub from_first : List ℕ → List ℕ
from_first [] = []
from_first (b ∷ []) = if is_blank b then [] else b ∷ []
from_first (b ∷ c ∷ bs) = if is_blank b then from_first (c ∷ bs)
    else (if is_join b c then from_first bs else b ∷ c ∷ bs)

abbrev pub is_nothing : List ℕ → Bool
is_nothing [] = true
is_nothing (b ∷ bs) = false

-- A text up to its last byte that is neither a blank nor of a join.
abbrev pub up_to_last : List ℕ → List ℕ
up_to_last [] = []
up_to_last (b ∷ bs) = if is_nothing (from_first (b ∷ bs)) then [] else b ∷ up_to_last bs

-- A text with its joins taken out.
abbrev pub unjoined : List ℕ → List ℕ
unjoined [] = []
unjoined (b ∷ []) = b ∷ []
unjoined (b ∷ c ∷ bs) = if is_join b c then unjoined bs else b ∷ unjoined (c ∷ bs)

-- What the bytes of a run say, with the joins that stand within it.
abbrev pub source : List ℕ → List ℕ
source bytes = up_to_last (from_first (without_end bytes))

-- How many bytes of a run stand before that.
abbrev pub indent : List ℕ → ℕ
indent bytes = length (without_end bytes) - length (from_first (without_end bytes))

-- The line of a run of these bytes, which begins at this place of the text, under its number.
abbrev pub line_of : ℕ → ℕ → List ℕ → Line
line_of number place bytes = record {
  number = number;
  span = record { start = place + indent bytes; end = place + indent bytes + length (source bytes) };
  text = unjoined (source bytes);
}

-- The line is neither blank nor a comment.
abbrev pub says_something : List ℕ → Bool
says_something bytes = not (is_nothing (source bytes)) && not (begins_with hash (source bytes))

-- ---- refusals

-- The most bytes of a logical line.
abbrev pub longest : FileKind → ℕ
longest Config = LONGEST_LINE
longest Htaccess = LONGEST_HTACCESS_LINE

-- The bytes of a run of so many physical lines without its end and its joins, which have two bytes
-- each.
abbrev pub size : ℕ → List ℕ → ℕ
size count bytes = length (without_end bytes) - 2 * (count - 1)

-- A byte that no configuration text may have. LF stands in the joins alone.
abbrev pub is_forbidden : ℕ → Bool
is_forbidden b = is_control b && not (b == tab) && not (is_lf b)

-- The rule that a run of so many physical lines breaks.
abbrev pub broken_by : FileKind → ℕ → List ℕ → Option ℕ
broken_by file count bytes =
    if nat_lt (longest file) (size count bytes) then Some LINE_TOO_LONG
    else (if list_any is_forbidden (without_end bytes) then Some CONTROL_BYTE else None)

-- What a run is read as: a line, or nothing where it says nothing, or its refusal.
abbrev pub read_as : Option ℕ → Bool → Line → Result (Option Line) AtLine
read_as (Some code) says line = Err (record { code = code; line = line.number })
read_as None says line = Ok (if says then Some line else None)

abbrev pub line_at : FileKind → ℕ → ℕ → ℕ → List ℕ → Result (Option Line) AtLine
line_at file number place count bytes = read_as (broken_by file count bytes) (says_something bytes)
    (line_of number place bytes)

-- ---- all lines

abbrev pub before : List Line → Result (List Line) AtLine → Result (List Line) AtLine
before first (Err refusal) = Err refusal
before first (Ok lines) = Ok (first ++ lines)

abbrev pub then_lines : Result (Option Line) AtLine → Result (List Line) AtLine → Result (List Line) AtLine
then_lines (Err refusal) more = Err refusal
then_lines (Ok None) more = more
then_lines (Ok (Some line)) more = before (line ∷ []) more

-- The lines of runs, of which the first has this number and begins at this place.
abbrev pub lines_from : FileKind → ℕ → ℕ → List (List (List ℕ)) → Result (List Line) AtLine
lines_from file number place [] = Ok []
lines_from file number place (run ∷ runs) =
    then_lines (line_at file number place (length run) (concat run))
    (lines_from file (number + length run) (place + length (concat run)) runs)

-- The logical lines of a text that say something, or the refusal of the first line that breaks a
-- rule.
unfoldable pub lines_of : FileKind → List ℕ → Result (List Line) AtLine
lines_of file text = lines_from file 1 0 (runs (pieces text))

-- Spans lie in the text behind this place, in order, and don't overlap; a line's text is that of
-- its span with the joins taken out.
abbrev pub AreSpansFrom : ℕ → List ℕ → List Line → Type 0
AreSpansFrom from text [] = ⊤
AreSpansFrom from text (line ∷ lines) =
    (from ≤ line.span.start) × (line.span.start < line.span.end) × (line.span.end ≤ length text)
    × (line.text ≡ unjoined (slice_range text line.span.start line.span.end))
    × AreSpansFrom line.span.end text lines
