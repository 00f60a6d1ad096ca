-- What an edit leaves.
use Rattle.std.specs.Prelude.{◌≡◌, ◌≢◌, ◌⊎◌, ℕ, ◌+◌, ◌-◌, ⊤, Bool, not, ◌&&◌}
use Rattle.std.specs.Prelude.{◌||◌, if◌then◌else◌, nat_eq, nat_le, List, [], ◌∷◌, ◌++◌, length}
use Rattle.std.specs.Prelude.{take, drop, is_some, Option, Some, None, Result, Ok, Err, Contains, refl}
use Rattle.std.specs.Coded.{Coded, code_by, coded×, coded_ℕ}
use Rattle.std.specs.FinMap.{get, insert, retain_keys}
use Rattle.std.specs.List.{flat_map, starts_with}
use Rattle.std.specs.Str.{bytes_eq}
use Rattle.hc_base.specs.Bytes.{slash}
use Rattle.hc_base.specs.Lines.{pieces}
use Rattle.hc_base.specs.declared.codes.TheConstants.{BAD_RANGE, NO_SUCH_PATH, PATH_FORM}
use Rattle.hc_base.specs.declared.fault.Fault.{Fault}
use Rattle.hc_base.specs.declared.fault.Fault.TheVariants.{NoMemory, Refused}
use Rattle.hc_model.specs.Node.{text, text_of}
use Rattle.hc_model.specs.World.{World, world_code, IsWorld, is_path, list_dir, list_file, parents, root}
use Rattle.hc_model.specs.declared.read.Read.{Read}
use Rattle.hc_steps.specs.Shown.{shown_by}
use Rattle.hc_steps.specs.Step.{Path}
use Rattle.hc_world.specs.Changes.{ChangeMap, change_map_code, last_change}
use Rattle.hc_world.specs.declared.world.ListKind.{ListKind}
use Rattle.hc_world.specs.declared.world.ListKind.TheVariants.{File, Dir}

-- The files of a world that is edited, how many edits were accepted, and which of them were the last changes.
pub record Edited : Type 0 where
  pub files : World
  pub edits : ℕ
  pub changes : ChangeMap

abbrev pub edited_code : Coded Edited
edited_code =
    code_by (World × (ℕ × ChangeMap)) (coded× world_code (coded× coded_ℕ change_map_code))
    (λ e. (e.files, (e.edits, e.changes))) (λ p. record { files = p.0; edits = p.1.0; changes = p.1.1 }) (λ _. refl)

-- The number of the last edit before and after which the read shows something else; 0 where there is none.
abbrev pub changed_at : Edited → Read → ℕ
changed_at edited read = last_change edited.changes read

-- ---- the edits

abbrev pub listed : World → Path → ListKind → Result World ℕ
listed world path File = list_file world path
listed world path Dir = list_dir world path

-- The path, and what lies below it.
abbrev pub is_within : Path → Path → Bool
is_within path other = bytes_eq other path || starts_with nat_eq other (path ++ slash ∷ [])

-- A path is taken away, and all below it. The root stays.
abbrev pub dropped : World → Path → Result World ℕ
dropped world path =
    if not (is_path path) || bytes_eq path root then Err PATH_FORM
    else (if is_some (get world path) then Ok (retain_keys world (λ other. not (is_within path other)))
    else Err NO_SUCH_PATH)

-- Of so many lines, counted from 1, these are some, or none before the first of them.
abbrev pub is_range : ℕ → ℕ → ℕ → Bool
is_range lines from to = nat_le 1 from && nat_le from (lines + 1) && nat_le (from - 1) to && nat_le to lines

-- The lines are replaced, with their LFs, by a text as it stands.
abbrev pub spliced : List (List ℕ) → ℕ → ℕ → List ℕ → List ℕ
spliced lines from to new =
    flat_map (λ line. line) (take (from - 1) lines) ++ new ++ flat_map (λ line. line) (drop to lines)

abbrev pub with_lines : World → Path → ℕ → ℕ → List ℕ → Option (List ℕ) → Result World ℕ
with_lines world path from to new None = Err NO_SUCH_PATH
with_lines world path from to new (Some old) =
    if is_range (length (pieces old)) from to then Ok (insert world path (text (spliced (pieces old) from to new)))
    else Err BAD_RANGE

-- The physical lines from one to another of a file with a text are replaced.
abbrev pub lines_edited : World → Path → ℕ → ℕ → List ℕ → Result World ℕ
lines_edited world path from to new =
    if not (is_path path) then Err PATH_FORM else with_lines world path from to new (text_of (get world path))

-- ---- what they leave

-- A read that shows something else has this edit's number; any other has the one that it had.
abbrev pub IsMarked : Edited → Edited → Read → Type 0
IsMarked old new read =
    ((shown_by new.files read ≡ shown_by old.files read) × (changed_at new read ≡ changed_at old read))
    ⊎ ((shown_by new.files read ≢ shown_by old.files read) × (changed_at new read ≡ new.edits))

pub record IsAccepted (old new : Edited) : Type 0 where
  pub counted : new.edits ≡ old.edits + 1
  pub marked : (read : Read) → IsMarked old new read

-- `edit` is the edited files, or the refusal's code. An accepted edit is counted and marks what it changes; an
-- error leaves all as it was.
abbrev pub Edits : Result ⊤ (Fault ℕ) → Edited → Edited → Result World ℕ → Type 0
Edits (Ok _) old new edit = (edit ≡ Ok new.files) × IsAccepted old new
Edits (Err (Refused code)) old new edit = (edit ≡ Err code) × (new ≡ old)
Edits (Err NoMemory) old new edit = new ≡ old

-- The same of the files alone.
abbrev pub EditsFiles : Result ⊤ (Fault ℕ) → World → World → Result World ℕ → Type 0
EditsFiles (Ok _) old new edit = edit ≡ Ok new
EditsFiles (Err (Refused code)) old new edit = (edit ≡ Err code) × (new ≡ old)
EditsFiles (Err NoMemory) old new edit = new ≡ old

-- What each edit of a path keeps: that it is a world, and all paths but this one and its parents.
pub record IsEdit (path : List ℕ) (old new : World) : Type 0 where
  pub valid : IsWorld new
  pub others : (q : List ℕ) → q ≢ path → (Contains (parents path) q → ⊥) → get new q ≡ get old q
