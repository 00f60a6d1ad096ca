-- How the logical lines of a text are kept.
use Rattle.std.specs.Prelude.{◌≡◌, ℕ, ◌+◌, ◌<◌, ◌≤◌, List, [], ◌∷◌, length, take, drop, ⊤}
use Rattle.std.specs.Prelude.{true, false, ◌||◌, slice_range}
use Rattle.std.specs.Prelude.{Option, Some, None, Result, Ok, Err, ◌^◌, ◌-◌, suc, nat_lt, if◌then◌else◌}
use Rattle.std.specs.Str.{IsCharBoundary}
use Rattle.hc_base.specs.Lines.{pieces}
use Rattle.hc_base.specs.declared.codes.TheConstants.{CONTROL_BYTE, LINE_TOO_LONG}
use Rattle.hc_base.specs.declared.fault.AtLine.{AtLine}
use Rattle.hc_lines.specs.Logical.{is_nothing, line_at, longest, runs, unjoined}
use Rattle.hc_lines.specs.declared.line.FileKind.{FileKind}
use Rattle.hc_lines.specs.declared.line.Line.{Line}
use Rattle.hc_kept_lines.specs.Edit.{is_ended}
use Rattle.hc_kept_lines.specs.declared.lines.KeptLines.{KeptLines}
use Rattle.hc_kept_lines.specs.declared.runs.KeptRun.{KeptRun}
use Rattle.hc_kept_lines.specs.declared.runs.Reading.{Reading}
use Rattle.hc_kept_lines.specs.declared.runs.Reading.TheVariants.{Forbidden, Nothing, Said}

-- The line that is said from one byte to another of a logical line.
abbrev pub said : List ℕ → ℕ → ℕ → ℕ → ℕ → Line
said line start end number place = record {
  number = number;
  span = record { start = place + start; end = place + end };
  text = unjoined (slice_range line start end);
}

-- What a logical line that isn't too long is, read as this, under a number, at a place.
abbrev pub told : Reading → List ℕ → ℕ → ℕ → Result (Option Line) AtLine
told Nothing line number place = Ok None
told (Said start end) line number place = Ok (Some (said line start end number place))
told Forbidden line number place = Err (record { code = CONTROL_BYTE; line = number })

-- What a logical line of this size is in a file of a kind.
abbrev pub told_in : FileKind → ℕ → Reading → List ℕ → ℕ → ℕ → Result (Option Line) AtLine
told_in kind size read line number place =
    if nat_lt (longest kind) size then Err (record { code = LINE_TOO_LONG; line = number })
    else told read line number place

-- Where a line is said, its bytes are a text.
abbrev pub IsSpan : Reading → List ℕ → Type 0
IsSpan Nothing line = ⊤
IsSpan (Said start end) line = (start ≤ end) × IsCharBoundary line start × IsCharBoundary line end
IsSpan Forbidden line = ⊤

-- A logical line has this size and is read as this: that tells what it is in each kind of file, under whatever number,
-- wherever it stands. What a line is read as that is too long for either kind doesn't matter.
pub record IsReadAs (line : List ℕ) (size : ℕ) (read : Reading) : Type 0 where
  pub reads : (kind : FileKind) (number place : ℕ)
      → line_at kind number place (length (pieces line)) line ≡ told_in kind size read line number place
  pub span : IsSpan read line

-- What a logical line whose lines are these is read as.
abbrev pub reading_of : List Line → Reading
reading_of [] = Nothing
reading_of (line ∷ lines) = Said line.span.start line.span.end

-- One text stands before another, and no logical line goes on over the place between them.
abbrev pub Parts : List ℕ → List ℕ → Type 0
Parts front back = (is_ended front || is_nothing back) ≡ true

-- A text begins with a logical line that is kept so, and goes on so behind it.
pub record IsKeptRun (line behind : List ℕ) (run : KeptRun) : Type 0 where
  pub bytes : length line ≡ run.bytes
  pub some : 0 < run.bytes
  pub single : runs (pieces line) ≡ pieces line ∷ []
  pub count : run.count ≡ length (pieces line)
  pub ended : Parts line behind
  pub read : IsReadAs line run.size run.read

-- The logical lines of a text are kept so.
abbrev pub AreKept : List ℕ → List KeptRun → Type 0
AreKept text [] = text ≡ []
AreKept text (run ∷ more) = IsKeptRun (take run.bytes text) (drop run.bytes text) run
    × AreKept (drop run.bytes text) more

-- These are what the logical lines of a text are read as, which has less than 4 GiB.
pub record AreLinesOf (text : List ℕ) (lines : KeptLines) : Type 0 where
  pub small : length text < 2 ^ 32
  pub kept : AreKept text lines.runs.items

-- How many of the first ones have no more than so many bytes in all.
abbrev pub within : List KeptRun → ℕ → ℕ
within [] bytes = 0
within (run ∷ more) bytes = if nat_lt bytes run.bytes then 0 else suc (within more (bytes - run.bytes))

-- No logical line ends within the text.
pub record IsUncut (text : List ℕ) : Type 0 where
  pub cut : (k : ℕ) → 0 < k → k < length text → is_ended (take k text) ≡ false

-- The first logical line of a text has so many bytes.
pub record IsLineLen (text : List ℕ) (bytes : ℕ) : Type 0 where
  pub some : 0 < bytes
  pub inside : bytes ≤ length text
  pub uncut : IsUncut (take bytes text)
  pub parts : Parts (take bytes text) (drop bytes text)
