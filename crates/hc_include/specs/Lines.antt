-- What a line of a configuration changes, by what was read before it.
-- Apache manual, "Configuration Files"; core, Include, IncludeOptional, IfDefine, IfModule. The
-- refusals are our own choice.
use Rattle.std.specs.Prelude.{ℕ, ◌+◌, ◌-◌, ◌==◌, List, [], ◌∷◌, ◌++◌, length, drop, take, Bool}
use Rattle.std.specs.Prelude.{Option, Some, None, Result, Ok, Err, if◌then◌else◌, nat_lt}
use Rattle.hc_base.specs.Rules.{refusal_at, rule}
use Rattle.hc_base.specs.declared.codes.TheConstants.{WRONG_ARGUMENTS}
use Rattle.hc_base.specs.declared.fault.AtByte.{AtByte}
use Rattle.hc_base.specs.declared.fault.AtLine.{AtLine}
use Rattle.hc_lines.specs.Logical.{lines_of}
use Rattle.hc_lines.specs.Words.{skip_blanks}
use Rattle.hc_lines.specs.declared.line.FileKind.{FileKind}
use Rattle.hc_lines.specs.declared.line.Line.{Line}
use Rattle.hc_model.specs.declared.entry.Entry.{Entry}
use Rattle.hc_model.specs.declared.entry.EntryForm.{EntryForm}
use Rattle.hc_model.specs.declared.entry.EntryForm.TheVariants.{Directive, Opening}
use Rattle.hc_model.specs.declared.spot.Spot.{Spot}
use Rattle.hc_nodes.specs.Tree.{behind_name, inside_brackets, is_close, is_complete, name_of, refusal_of}
use Rattle.hc_steps.specs.Step.{Path, Step, leaves}
use Rattle.hc_flat.specs.EntriesView.{close_of, innermost, spot_at}
use Rattle.hc_include.specs.Include.{include_files}
use Rattle.hc_says.specs.Says.{body_kept, said_of, value_of, with_define, with_module, with_root}
use Rattle.hc_says.specs.Variables.{replaced}
use Rattle.hc_include.specs.declared.around.Around.{Around}
use Rattle.hc_include.specs.declared.change.Change.{Change}
use Rattle.hc_include.specs.declared.change.Change.TheVariants.{Drops, Closes, Opens, Keeps}
use Rattle.hc_include.specs.declared.reading.Reading.{Reading}
use Rattle.hc_include.specs.declared.reading.Setting.{Setting}
use Rattle.hc_include.specs.declared.reading.Stopped.{Stopped}
use Rattle.hc_says.specs.declared.says.Says.{Says}
use Rattle.hc_says.specs.declared.says.Says.TheVariants.{Nothing, Define, Loads, Roots, Includes}

-- ---- texts

-- The most bytes of a line once its variables are replaced.
abbrev pub longest_replaced : ℕ
longest_replaced = 1048576

abbrev pub is_too_long : ℕ → Bool
is_too_long bytes = nat_lt longest_replaced bytes

abbrev pub replaced_in : Reading → List ℕ → List ℕ
replaced_in reading text = replaced (value_of reading.defines) text

-- ---- directives

-- The name of a replaced line is its first bytes up to a blank, behind the blanks before it.
abbrev pub name_in : List ℕ → List ℕ
name_in text = name_of (skip_blanks text)

abbrev pub rest_in : List ℕ → List ℕ
rest_in text = behind_name (skip_blanks text)

-- In a `.htaccess` a directive says nothing to the lines behind it.
abbrev pub said_by : Setting → List ℕ → Result Says AtByte
said_by setting text = if setting.says then said_of (name_in text) (rest_in text) else Ok Nothing

abbrev pub keeps : List ℕ → Result Says AtByte → Result Change AtByte
keeps text (Ok says) = Ok (Keeps text says)
keeps text (Err broken) = Err broken

abbrev pub directive_read : Setting → List ℕ → Result Change AtByte
directive_read setting text =
    if is_too_long (length text) then Err (rule WRONG_ARGUMENTS) else keeps text (said_by setting text)

-- ---- sections

abbrev pub opens : List ℕ → Result Bool AtByte → Result Change AtByte
opens inside (Ok is_kept) = Ok (Opens inside is_kept)
opens inside (Err broken) = Err broken

-- The brackets are two bytes.
abbrev pub opening_read : Reading → List ℕ → Result Change AtByte
opening_read reading inside =
    if is_too_long (length inside + 2) then Err (rule WRONG_ARGUMENTS)
    else opens inside (body_kept reading.defines reading.modules (name_of inside) (behind_name inside))

-- Behind a line of a body that is dropped. The close of its own section is kept.
abbrev pub dropping : ℕ → Line → Change
dropping dropped line =
    if is_close line then (if dropped == 1 then Closes else Drops (dropped - 1))
    else if is_complete line then Drops (dropped + 1)
    else Drops dropped

-- ---- lines

-- Of a section what stands in its brackets is replaced: neither of the two is a byte of `${` or `}`.
abbrev pub kept_line : Reading → Line → Result Change AtByte
kept_line reading line =
    if is_close line then Ok Closes
    else if is_complete line then opening_read reading (replaced_in reading (inside_brackets line))
    else directive_read reading.setting (replaced_in reading line.text)

unfoldable pub change_by : Reading → Line → Result Change AtByte
change_by reading line =
    if reading.dropped == 0 then kept_line reading line else Ok (dropping reading.dropped line)

-- ---- what was read behind a line

abbrev pub spot_of : Path → Line → Spot
spot_of file line = spot_at file line.number line.span

abbrev pub entry_at : Spot → EntryForm → List ℕ → List ℕ → Entry
entry_at spot form name rest = record { spot = spot; form = form; name = name; rest = rest }

-- The innermost opening is closed.
abbrev pub closed_at : Spot → Option ℕ → Reading → Reading
closed_at spot None reading = reading
closed_at spot (Some place) reading = record reading {
  entries = reading.entries ++ close_of spot (drop place reading.entries);
  openings = take (length reading.openings - 1) reading.openings;
  dropped = 0;
}

abbrev pub opened_at : Spot → List ℕ → Bool → Reading → Reading
opened_at spot inside is_kept reading = record reading {
  entries = reading.entries ++ entry_at spot Opening (name_of inside) (behind_name inside) ∷ [];
  openings = reading.openings ++ length reading.entries ∷ [];
  dropped = if is_kept then 0 else 1;
}

abbrev pub kept_at : Spot → List ℕ → Says → Reading → Reading
kept_at spot text says reading = record reading {
  entries = reading.entries ++ entry_at spot Directive (name_in text) (rest_in text) ∷ [];
  defines = with_define reading.defines says;
  modules = with_module reading.modules says;
  root = with_root reading.root says;
}

abbrev pub changed : Spot → Reading → Change → Reading
changed spot reading (Drops dropped) = record reading { dropped = dropped }
changed spot reading Closes = closed_at spot (innermost reading.openings) reading
changed spot reading (Opens inside is_kept) = opened_at spot inside is_kept reading
changed spot reading (Keeps text says) = kept_at spot text says reading

-- The files that come behind a line.
abbrev pub files_said : Around → Option Path → Says → Step AtByte (List Path)
files_said around root (Includes optional path) = include_files around optional root path
files_said around root Nothing = leaves []
files_said around root (Define name value) = leaves []
files_said around root (Loads name) = leaves []
files_said around root (Roots path) = leaves []

unfoldable pub files_behind : Around → Option Path → Change → Step AtByte (List Path)
files_behind around root (Keeps text says) = files_said around root says
files_behind around root (Drops dropped) = leaves []
files_behind around root Closes = leaves []
files_behind around root (Opens inside is_kept) = leaves []

-- ---- the lines of a text

abbrev pub unless_broken : List Line → Option AtLine → Result (List Line) AtLine
unless_broken lines None = Ok lines
unless_broken lines (Some broken) = Err broken

abbrev pub if_lines : Result (List Line) AtLine → Result (List Line) AtLine
if_lines (Err broken) = Err broken
if_lines (Ok lines) = unless_broken lines (refusal_of lines)

-- The rules of lines come first, then those of sections.
unfoldable pub ruled_lines : FileKind → List ℕ → Result (List Line) AtLine
ruled_lines kind text = if_lines (lines_of kind text)

-- The first refusal ends the reading, with what was read before it.
abbrev pub stopped_at : Path → ℕ → Reading → AtByte → Stopped
stopped_at file line reading broken =
    record { reading = reading; refusal = refusal_at (record { file = file; line = line }) broken }
