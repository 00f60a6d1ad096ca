-- What reading the `.htaccess` of a directory gives.
-- Apache manual, ".htaccess files"; core, AllowOverride. That a directory of this name counts as none, and that a file
-- without
-- a text is refused, is our own choice.
use Rattle.std.specs.Prelude.{ℕ, List, length, Option, Some, None, Result, Ok, Err}
use Rattle.hc_base.specs.Rules.{refusal_at, rule}
use Rattle.hc_base.specs.declared.codes.TheConstants.{CONTENT_MISSING}
use Rattle.hc_base.specs.declared.place.Refusal.{Refusal}
use Rattle.hc_config.specs.Configuration.{built_override}
use Rattle.hc_include.specs.Override.{override_flat}
use Rattle.hc_merge.specs.Overriding.{htaccess_of}
use Rattle.hc_model.specs.Overrides.{Override, Reading, file, none, refused}
use Rattle.hc_model.specs.World.{World}
use Rattle.hc_model.specs.declared.config.Config.{Config}
use Rattle.hc_model.specs.declared.section.Allowed.{Allowed}
use Rattle.hc_model.specs.declared.section.Body.{Body}
use Rattle.hc_model.specs.declared.section.HtFile.{HtFile}
use Rattle.hc_model.specs.declared.walk.Kind.{Kind}
use Rattle.hc_model.specs.declared.walk.Kind.TheVariants.{Absent, Dir, File}
use Rattle.hc_steps.specs.Shown.{found_in}
use Rattle.hc_steps.specs.Step.{Found, Path}

-- ---- a text

abbrev pub file_with : Path → Result Body Refusal → Result HtFile Refusal
file_with dir (Err refusal) = Err refusal
file_with dir (Ok body) = Ok (record { dir = dir; body = body })

-- Under what the configuration defines and loads.
unfoldable pub file_read : Config → Path → Allowed → List ℕ → Result HtFile Refusal
file_read config dir allowed text =
    file_with dir (built_override (override_flat (htaccess_of dir) text config.defines config.modules) allowed)

-- ---- what stands at its path

abbrev pub given : Result HtFile Refusal → Override
given (Err refusal) = refused refusal
given (Ok found) = file found

abbrev pub without_text : Path → Refusal
without_text dir = refusal_at (record { file = htaccess_of dir; line = 0 }) (rule CONTENT_MISSING)

abbrev pub text_there : Config → Path → Allowed → Option (List ℕ) → Override
text_there config dir allowed None = refused (without_text dir)
text_there config dir allowed (Some text) = given (file_read config dir allowed text)

abbrev pub at_kind : Config → Path → Allowed → Option (List ℕ) → Kind → Override
at_kind config dir allowed text Absent = none
at_kind config dir allowed text Dir = none
at_kind config dir allowed text File = text_there config dir allowed text

unfoldable pub found_there : Config → Path → Allowed → Found → Override
found_there config dir allowed found = at_kind config dir allowed found.text found.kind

-- ---- in a world

abbrev pub reading_in : World → Config → Reading
reading_in world config dir allowed = found_there config dir allowed (found_in world (htaccess_of dir))

-- ---- its bytes

abbrev pub length_of : Option (List ℕ) → ℕ
length_of None = 0
length_of (Some text) = length text

-- How many bytes the text at a path has: 0 where there is none.
abbrev pub text_size : World → Path → ℕ
text_size world path = length_of (found_in world path).text

abbrev pub size_in : World → Path → ℕ
size_in world dir = text_size world (htaccess_of dir)
