-- The lines that claims may speak of: each RewriteRule and each Require, in the files of a configuration and in the
-- `.htaccess` texts of a world. Our own choice.
use Rattle.std.specs.Prelude.{◌≡◌, ℕ, ◌==◌, List, Bool, false, true, ◌&&◌, filter, map, Option, Some, None}
use Rattle.std.specs.Prelude.{Result, Ok, Err, codes, eqb}
use Rattle.std.specs.FinMap.{get}
use Rattle.std.specs.List.{ends_with, list_any}
use Rattle.std.specs.Str.{str_eq_ignore_ascii_case}
use Rattle.hc_base.specs.declared.fault.AtLine.{AtLine}
use Rattle.hc_base.specs.declared.place.Place.{Place}
use Rattle.hc_lines.specs.Logical.{lines_of}
use Rattle.hc_lines.specs.Words.{skip_blanks}
use Rattle.hc_lines.specs.declared.line.FileKind.TheVariants.{Htaccess}
use Rattle.hc_lines.specs.declared.line.Line.{Line}
use Rattle.hc_model.specs.Node.{text_of}
use Rattle.hc_model.specs.World.{World}
use Rattle.hc_model.specs.declared.entry.Entry.{Entry}
use Rattle.hc_model.specs.declared.entry.EntryForm.{EntryForm}
use Rattle.hc_model.specs.declared.entry.EntryForm.TheVariants.{Directive}
use Rattle.hc_nodes.specs.Tree.{name_of}
use Rattle.hc_claim_lines.specs.declared.subject.Subject.{Subject}
use Rattle.hc_claim_lines.specs.declared.subject.Subject.TheVariants.{Require, Rule}
use Rattle.hc_claim_lines.specs.declared.lines.ClaimLines.{ClaimLines}

abbrev pub directive_of : Subject → List ℕ
directive_of Rule = codes "RewriteRule"
directive_of Require = codes "Require"

-- A name of a directive is compared without case.
abbrev pub is_named : Subject → List ℕ → Bool
is_named subject name = str_eq_ignore_ascii_case (directive_of subject) name

-- ---- in the files of a configuration

abbrev pub is_directive : EntryForm → Bool
is_directive Directive = true
is_directive form = false

abbrev pub is_line : Subject → Entry → Bool
is_line subject entry = is_directive entry.form && is_named subject entry.name

abbrev pub places_in : Subject → List Entry → List Place
places_in subject entries = map (λ entry. entry.spot.place) (filter (is_line subject) entries)

-- Those of a configuration's flat list.
unfoldable pub claim_lines : List Entry → ClaimLines
claim_lines entries = record { rules = places_in Rule entries; guards = places_in Require entries }

-- ---- in a `.htaccess` text

-- The logical line of this number begins with the name, whatever section it stands in.
abbrev pub is_written : Subject → ℕ → Line → Bool
is_written subject number line = (line.number == number) && is_named subject (name_of (skip_blanks line.text))

-- A text that has no lines has none of these.
abbrev pub is_among : Subject → ℕ → Result (List Line) AtLine → Bool
is_among subject number (Ok lines) = list_any (is_written subject number) lines
is_among subject number (Err broken) = false

abbrev pub is_in_text : Subject → ℕ → Option (List ℕ) → Bool
is_in_text subject number None = false
is_in_text subject number (Some text) = is_among subject number (lines_of Htaccess text)

abbrev pub is_htaccess : List ℕ → Bool
is_htaccess path = ends_with eqb path (codes "/.htaccess")

-- It stands in a `.htaccess` text of the world, whether or not that is read for a request.
unfoldable pub stands_in : World → Subject → Place → Bool
stands_in world subject place =
    is_htaccess place.file && is_in_text subject place.line (text_of (get world place.file))
