-- What the code's functions tell of the marks that an edit leaves.
use Rattle.std.specs.Prelude.{◌≡◌, ◌≢◌, ◌⊎◌, ℕ, ◌+◌, ◌<◌, ⊤, true, length}
use Rattle.std.specs.Prelude.{if◌then◌else◌, Option, Some, None, Result, Ok, Err, IsSome}
use Rattle.std.specs.FinMap.{get}
use Rattle.hc_base.specs.declared.fault.Fault.{Fault}
use Rattle.hc_model.specs.Node.{Node, dir, is_dir}
use Rattle.hc_model.specs.World.{World, is_path, name_in, names_in}
use Rattle.hc_model.specs.declared.read.Read.{Read}
use Rattle.hc_model.specs.declared.read.Read.TheVariants.{KindOf, NamesOf, TextOf}
use Rattle.hc_steps.specs.Shown.{shown_by}
use Rattle.hc_steps.specs.Step.{Path}
use Rattle.hc_world.specs.Changes.{ChangeMap, last_change}
use Rattle.hc_world.specs.Rows.{SameRows}
use Rattle.hc_world.specs.Slashes.{IsBelow}

-- `IsMarked` of an edit with this number, over the rows of the code.
abbrev pub Marks : ℕ → World → World → ChangeMap → ChangeMap → Type 0
Marks number old new rows after = (read : Read)
    → ((shown_by new read ≡ shown_by old read) × (last_change after read ≡ last_change rows read))
    ⊎ ((shown_by new read ≢ shown_by old read) × (last_change after read ≡ number))

abbrev pub FilesMarked : Result ⊤ (Fault ℕ) → ℕ → World → World → ChangeMap → ChangeMap → Type 0
FilesMarked (Ok _) number old new rows after = Marks number old new rows after
FilesMarked (Err _) number old new rows after = SameRows rows after

-- ---- what is made

abbrev pub count_of : Option Node → ℕ
count_of None = 0
count_of (Some node) = 1

-- How much a read shows: what is made makes it grow, where it changes it.
abbrev pub size : World → Read → ℕ
size world (KindOf path) = count_of (get world path)
size world (TextOf path) = count_of (get world path)
size world (NamesOf path) = if is_dir (get world path) then length (names_in world path) + 1 else 0

abbrev pub Grows : ℕ → World → World → ChangeMap → ChangeMap → Type 0
Grows number old new rows after = (read : Read)
    → ((shown_by new read ≡ shown_by old read) × (last_change after read ≡ last_change rows read))
    ⊎ ((size old read < size new read) × (last_change after read ≡ number))

abbrev pub FilesGrown : Result ⊤ (Fault ℕ) → ℕ → World → World → ChangeMap → ChangeMap → Type 0
FilesGrown (Ok _) number old new rows after = Grows number old new rows after
FilesGrown (Err _) number old new rows after = SameRows rows after

-- A free path below a directory that is there, from a place of the path on.
pub record IsPlace (world : World) (directory path : Path) (from : ℕ) : Type 0 where
  pub keys_are_paths : (q : Path) → IsSome (get world q) → is_path q ≡ true
  pub stands : get world directory ≡ Some dir
  pub free : get world path ≡ None
  pub formed : is_path path ≡ true
  pub below : IsBelow directory path from

-- A free path in a directory that is there.
pub record IsStep (world : World) (directory path : Path) : Type 0 where
  pub keys_are_paths : (q : Path) → IsSome (get world q) → is_path q ≡ true
  pub stands : get world directory ≡ Some dir
  pub free : get world path ≡ None
  pub named : IsSome (name_in directory path)
