-- The kept lines of the texts of a world.
use Rattle.std.specs.Prelude.{◌≡◌, ℕ, List, [], ◌∷◌, Bool, true, map, Vec, Some}
use Rattle.std.specs.Cmp.Lexicographic.{slice_cmp}
use Rattle.std.specs.FinMap.{FinMap, from_entries, get}
use Rattle.std.specs.Ordering.{nat_cmp}
use Rattle.std.specs.declared.alloc.Global.{Global}
use Rattle.hc_base.specs.Paths.{is_slash}
use Rattle.hc_kept_lines.specs.Runs.{AreLinesOf}
use Rattle.hc_kept_lines.specs.declared.lines.KeptLines.{KeptLines}
use Rattle.hc_model.specs.Node.{text_of}
use Rattle.hc_model.specs.World.{World}

-- The lines of the texts of files, by their paths.
abbrev pub Texts : Type 0
Texts = FinMap (slice_cmp nat_cmp) KeptLines

-- The lines of this text are kept for a path.
pub record HasLines (texts : Texts) (path text : List ℕ) : Type 0 where
  pub kept : KeptLines
  pub there : get texts path ≡ Some kept
  pub are : AreLinesOf text kept

-- So are those of each text of a world.
abbrev pub AreTextsOf : World → Texts → Type 0
AreTextsOf world texts = (path bytes : List ℕ) → text_of (get world path) ≡ Some bytes → HasLines texts path bytes

-- ---- how the entries of the code stand for them

abbrev pub entry_of : Vec ℕ Global × KeptLines → List ℕ × KeptLines
entry_of e = (e.0.items, e.1)

abbrev pub texts_of : List (Vec ℕ Global × KeptLines) → Texts
texts_of entries = from_entries (map entry_of entries)

-- What stands behind a path is nothing, or begins with a slash.
abbrev pub begins_below : List ℕ → Bool
begins_below [] = true
begins_below (b ∷ bs) = is_slash b
