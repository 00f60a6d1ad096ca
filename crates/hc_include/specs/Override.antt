-- The flat list of a `.htaccess` text. It has what the configuration defines and loads, and defines, loads and includes
-- nothing itself, so that nothing of the world is looked at.
-- Apache manual, ".htaccess files"; core, Define, IfDefine, IfModule.
use Rattle.std.specs.Prelude.{ℕ, List, [], ◌∷◌, false, None, Some, Result, Ok, Err}
use Rattle.hc_base.specs.Rules.{rule}
use Rattle.hc_base.specs.declared.fault.AtByte.{AtByte}
use Rattle.hc_base.specs.declared.fault.AtLine.{AtLine}
use Rattle.hc_flat.specs.declared.flat.Flat.{Flat}
use Rattle.hc_lines.specs.declared.line.FileKind.TheVariants.{Htaccess}
use Rattle.hc_lines.specs.declared.line.Line.{Line}
use Rattle.hc_model.specs.declared.config.Define.{Define}
use Rattle.hc_steps.specs.Step.{Path}
use Rattle.hc_include.specs.Flat.{begun, flat_at}
use Rattle.hc_include.specs.Lines.{change_by, changed, ruled_lines, spot_of, stopped_at}
use Rattle.hc_include.specs.declared.change.Change.{Change}
use Rattle.hc_include.specs.declared.reading.Reading.{Reading}
use Rattle.hc_include.specs.declared.reading.Setting.{Setting}
use Rattle.hc_include.specs.declared.reading.Stopped.{Stopped}

abbrev pub override_setting : Setting
override_setting = record { kind = Htaccess; says = false }

-- No files come behind a line.
abbrev pub line_alone : Path → Reading → Line → Result Change AtByte → Result Reading Stopped
line_alone file reading line (Err broken) = Err (stopped_at file line.number reading broken)
line_alone file reading line (Ok change) = Ok (changed (spot_of file line) reading change)

abbrev pub read_next : Result Reading Stopped → (Reading → Result Reading Stopped) → Result Reading Stopped
read_next (Err stopped) rest = Err stopped
read_next (Ok reading) rest = rest reading

abbrev pub lines_alone : Path → Reading → List Line → Result Reading Stopped
lines_alone file reading [] = Ok reading
lines_alone file reading (line ∷ lines) =
    read_next (line_alone file reading line (change_by reading line)) (λ later. lines_alone file later lines)

abbrev pub text_alone : Path → Reading → Result (List Line) AtLine → Result Reading Stopped
text_alone file reading (Err broken) = Err (stopped_at file broken.line reading (rule broken.code))
text_alone file reading (Ok lines) = lines_alone file reading lines

abbrev pub flat_alone : Path → Result Reading Stopped → Flat
flat_alone path (Ok reading) = flat_at path [] None reading
flat_alone path (Err stopped) = flat_at path [] (Some stopped.refusal) stopped.reading

-- Its path, its text, and what is defined and loaded.
unfoldable pub override_flat : Path → List ℕ → List Define → List (List ℕ) → Flat
override_flat path text defines modules =
    flat_alone path (text_alone path (begun override_setting defines modules) (ruled_lines Htaccess text))
