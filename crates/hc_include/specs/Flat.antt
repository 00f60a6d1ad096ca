-- The flat list of a configuration: its directives, openings and closes in order, with the files of
-- an Include at its place and without the bodies that IfDefine and IfModule drop.
-- Apache manual, "Configuration Files"; core, Include. How many files may stand within each other is
-- our own choice.
use Rattle.std.specs.Prelude.{ℕ, zero, suc, ◌+◌, List, [], ◌∷◌, ◌++◌, length, true, Option, Some, None}
use Rattle.std.specs.Prelude.{Result, Ok, Err, if◌then◌else◌}
use Rattle.hc_base.specs.Rules.{rule}
use Rattle.hc_base.specs.declared.codes.TheConstants.{CONTENT_MISSING, INCLUDE_MISSING}
use Rattle.hc_base.specs.declared.fault.AtByte.{AtByte}
use Rattle.hc_base.specs.declared.fault.AtLine.{AtLine}
use Rattle.hc_base.specs.declared.place.Refusal.{Refusal}
use Rattle.hc_lines.specs.declared.line.FileKind.TheVariants.{Config}
use Rattle.hc_lines.specs.declared.line.Line.{Line}
use Rattle.hc_model.specs.World.{World}
use Rattle.hc_model.specs.declared.config.Define.{Define}
use Rattle.hc_model.specs.declared.read.Read.{Read}
use Rattle.hc_model.specs.declared.walk.Kind.{Kind}
use Rattle.hc_steps.specs.Order.{each_once}
use Rattle.hc_steps.specs.Run.{Run, Way, goes_on, is_over, run}
use Rattle.hc_steps.specs.Shown.{shown_by}
use Rattle.hc_steps.specs.Step.{Path, Step, leaves, ends, ◌>>=◌, in_order, text_at}
use Rattle.hc_include.specs.Ending.{ending}
use Rattle.hc_include.specs.Include.{is_there}
use Rattle.hc_include.specs.Lines.{change_by, changed, files_behind, ruled_lines, spot_of, stopped_at}
use Rattle.hc_says.specs.Says.{built_in}
use Rattle.hc_include.specs.declared.around.Around.{Around}
use Rattle.hc_include.specs.declared.change.Change.{Change}
use Rattle.hc_flat.specs.declared.flat.Flat.{Flat}
use Rattle.hc_include.specs.declared.reading.Reading.{Reading}
use Rattle.hc_include.specs.declared.reading.Setting.{Setting}
use Rattle.hc_include.specs.declared.reading.Stopped.{Stopped}

-- What reads a file behind what was read so far.
abbrev pub Reader : Type 0
Reader = Reading → Path → Step Stopped Reading

-- A line, and the files that come behind it.
unfoldable pub behind_change : Around → Reader → Reading → Line → Result Change AtByte → Step Stopped Reading
behind_change around reader reading line (Err broken) = ends (stopped_at around.file line.number reading broken)
behind_change around reader reading line (Ok change) = do
  files ← ending (stopped_at around.file line.number reading) (files_behind around reading.root change)
  in_order reader (changed (spot_of around.file line) reading change) files

abbrev pub line_read : Around → Reader → Reading → Line → Step Stopped Reading
line_read around reader reading line = behind_change around reader reading line (change_by reading line)

unfoldable pub lines_read : Around → Reader → Reading → Result (List Line) AtLine → Step Stopped Reading
lines_read around reader reading (Err broken) = ends (stopped_at around.file broken.line reading (rule broken.code))
lines_read around reader reading (Ok lines) = in_order (line_read around reader) reading lines

abbrev pub having_read : List ℕ → Reading → Reading
having_read text reading = record reading { bytes = reading.bytes + length text }

-- A file without a text is refused as a whole.
abbrev pub missing : Kind → AtByte
missing kind = rule (if is_there kind then CONTENT_MISSING else INCLUDE_MISSING)

unfoldable pub text_read : Around → Reader → Reading → Kind → Option (List ℕ) → Step Stopped Reading
text_read around reader reading kind None = ends (stopped_at around.file 0 reading (missing kind))
text_read around reader reading kind (Some text) =
    lines_read around reader (having_read text reading) (ruled_lines reading.setting.kind text)

unfoldable pub file_read : Around → Reader → Reading → Step Stopped Reading
file_read around reader reading = text_at around.file >>= λ found. text_read around reader reading found.kind
    found.text

-- A file behind these, where so many may stand within it.
abbrev pub within : ℕ → List Path → Path → Around
within room chain file = record { file = file; chain = chain ++ file ∷ []; room = room }

-- Files behind these, where so many may stand within each other.
unfoldable pub reader_in : ℕ → List Path → Reader
reader_in zero chain reading file = leaves reading
reader_in (suc room) chain reading file = file_read (within room chain file) (reader_in room (chain ++ file ∷ []))
    reading

-- What reads the files that stand within one.
abbrev pub inner : Around → Reader
inner around = reader_in around.room around.chain

-- ---- the whole

-- The most files that stand within each other, without the main file.
abbrev pub deepest : ℕ
deepest = 32

-- A reading begins with what is defined and present before the first line.
abbrev pub begun : Setting → List Define → List (List ℕ) → Reading
begun setting defines modules = record {
  setting = setting;
  entries = [];
  defines = defines;
  modules = modules;
  root = None;
  openings = [];
  dropped = 0;
  bytes = 0;
}

abbrev pub main_setting : Setting
main_setting = record { kind = Config; says = true }

unfoldable pub main_read : Path → Step Stopped Reading
main_read main = file_read (within deepest [] main) (reader_in deepest ([] ++ main ∷ []))
    (begun main_setting [] built_in)

abbrev pub flat_at : Path → List Read → Option Refusal → Reading → Flat
flat_at main reads stop reading = record {
  file = main;
  entries = reading.entries;
  defines = reading.defines;
  modules = reading.modules;
  stop = stop;
  reads = reads;
}

abbrev pub read_on : Way Stopped Reading → Reading
read_on (goes_on reading) = reading
read_on (is_over stopped) = stopped.reading

abbrev pub stop_of : Way Stopped Reading → Option Refusal
stop_of (goes_on reading) = None
stop_of (is_over stopped) = Some stopped.refusal

abbrev pub flat_by : Path → Run Stopped Reading → Flat
flat_by main run = flat_at main (each_once run.reads) (stop_of run.way) (read_on run.way)

-- The flat list of a main file in a world, the first refusal of reading, and what was looked at.
unfoldable pub flat_of : World → Path → Flat
flat_of world main = flat_by main (run (main_read main) (shown_by world))

-- The bytes of the texts that are read for it.
unfoldable pub bytes_of : World → Path → ℕ
bytes_of world main = (read_on (run (main_read main) (shown_by world)).way).bytes
