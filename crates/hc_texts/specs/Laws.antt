-- Which lines are kept for all texts of a world, whatever edit it has.
use Rattle.std.specs.Prelude.{◌≡◌, ℕ, List, not, Some, Ok}
use Rattle.std.specs.FinMap.{get, insert, retain_keys}
use Rattle.hc_kept_lines.specs.Edit.{spliced}
use Rattle.hc_kept_lines.specs.Runs.{AreLinesOf}
use Rattle.hc_kept_lines.specs.declared.lines.KeptLines.{KeptLines}
use Rattle.hc_model.specs.Node.{text_of}
use Rattle.hc_model.specs.World.{World, new_world, put}
use Rattle.hc_texts.specs.Texts.{AreTextsOf, Texts}
use Rattle.hc_world.specs.Edits.{dropped, is_within, lines_edited, listed}
use Rattle.hc_world.specs.declared.world.ListKind.{ListKind}

-- The root alone has no text.
abbrev pub NewTexts : Type 0
NewTexts = (texts : Texts) → AreTextsOf new_world texts

-- Behind a put, the lines of its text are put.
abbrev pub PutTexts : Type 0
PutTexts = (world files : World) (texts : Texts) (path bytes : List ℕ) (kept : KeptLines)
    → AreTextsOf world texts → put world path bytes ≡ Ok files → AreLinesOf bytes kept
    → AreTextsOf files (insert texts path kept)

-- Behind an edit of lines, those of the edited text.
abbrev pub EditedTexts : Type 0
EditedTexts = (world files : World) (texts : Texts) (path : List ℕ) (from to : ℕ) (old new : List ℕ)
    (kept : KeptLines) → AreTextsOf world texts → lines_edited world path from to new ≡ Ok files
    → text_of (get world path) ≡ Some old → AreLinesOf (spliced old from to new) kept
    → AreTextsOf files (insert texts path kept)

-- A file without a text, and a directory, bring none.
abbrev pub ListedTexts : Type 0
ListedTexts = (world files : World) (texts : Texts) (path : List ℕ) (kind : ListKind)
    → AreTextsOf world texts → listed world path kind ≡ Ok files → AreTextsOf files texts

-- What is taken away is forgotten.
abbrev pub DroppedTexts : Type 0
DroppedTexts = (world files : World) (texts : Texts) (path : List ℕ)
    → AreTextsOf world texts → dropped world path ≡ Ok files
    → AreTextsOf files (retain_keys texts (λ other. not (is_within path other)))
