-- What the files of a world show.
use Rattle.std.specs.Prelude.{ℕ, List, if◌then◌else◌, Option, Some, None}
use Rattle.std.specs.FinMap.{get}
use Rattle.hc_model.specs.Node.{is_dir, kind_of, text_of}
use Rattle.hc_model.specs.World.{World, names_in}
use Rattle.hc_model.specs.declared.read.Read.TheVariants.{KindOf, NamesOf, TextOf}
use Rattle.hc_steps.specs.Step.{Found, Path, Shown}

abbrev pub found_in : World → Path → Found
found_in world path = record { kind = kind_of (get world path); text = text_of (get world path) }

-- No directory is something else than no names.
abbrev pub names_shown : World → Path → Option (List (List ℕ))
names_shown world path = if is_dir (get world path) then Some (names_in world path) else None

abbrev pub shown_by : World → Shown
shown_by world (KindOf path) = kind_of (get world path)
shown_by world (TextOf path) = found_in world path
shown_by world (NamesOf path) = names_shown world path
