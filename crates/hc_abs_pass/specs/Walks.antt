-- The ends of a walk over a world, in order: at each directory from `/` down its own text, the text with a slash, each
-- name in it, and last an absent component. Each is a test of what follows the slash of a directory.
-- Apache manual, core, AcceptPathInfo: what follows the name of a file is path information.
use Rattle.std.specs.Prelude.{ℕ, zero, suc, ◌<◌, ◌+◌, ◌≡◌, List, [], ◌∷◌, ◌++◌, drop}
use Rattle.std.specs.Prelude.{length, map, Bool}
use Rattle.std.specs.Prelude.{true, false, not, ◌&&◌, Option, Some, None, unwrap_or}
use Rattle.std.specs.List.{flat_map, list_any}
use Rattle.std.specs.Str.{bytes_eq}
use Rattle.hc_base.specs.Bytes.{slash}
use Rattle.hc_base.specs.Paths.{begins_with_slash, has_double_slash, is_slash}
use Rattle.hc_dfa.specs.Texts.{TextSet}
use Rattle.hc_model.specs.World.{IsWorld, World, root}
use Rattle.hc_model.specs.declared.event.Decision.{Decision}
use Rattle.hc_model.specs.declared.outcome.Outcome.{Outcome}
use Rattle.hc_model.specs.declared.read.Read.TheVariants.{KindOf, NamesOf}
use Rattle.hc_model.specs.declared.walk.Kind.{Kind}
use Rattle.hc_model.specs.declared.walk.Kind.TheVariants as kind
use Rattle.hc_model.specs.declared.walk.Walk.{Walk}
use Rattle.hc_plan.specs.Branches.{Branch, Branches}
use Rattle.hc_plan.specs.Cover.{Among, Covers}
use Rattle.hc_plan.specs.Plan.{Plan, done, from_hand, leave_out, make, sort, store}
use Rattle.hc_plan.specs.Running.{State, run}
use Rattle.hc_plan.specs.Slots.{Slot, put}
use Rattle.hc_plan.specs.States.{AbsState}
use Rattle.hc_plan.specs.Texts.{all_three, pick}
use Rattle.hc_steps.specs.Run as steps
use Rattle.hc_steps.specs.Run.{Way, goes_on}
use Rattle.hc_steps.specs.Shown.{shown_by}
use Rattle.hc_steps.specs.Step.{Path, Shown}
use Rattle.hc_steps.specs.Walking.{walk}
use Rattle.hc_abs_rw.specs.Laws.{BranchLike}
use Rattle.hc_abs_rw.specs.Standing.{Like}
use Rattle.hc_abs_rw.specs.Templates.{main, second, third}

-- ---- texts

-- A text is its first component, and what follows that.
abbrev pub component : List ℕ → List ℕ
component [] = []
component (b ∷ bs) = elim (is_slash b) [ true ↦ [] | false ↦ b ∷ component bs ]

abbrev pub behind_component : List ℕ → List ℕ
behind_component [] = []
behind_component (b ∷ bs) = elim (is_slash b) [ true ↦ b ∷ bs | false ↦ behind_component bs ]

abbrev pub is_empty : TextSet
is_empty [] = true
is_empty (b ∷ bs) = false

abbrev pub behind_slash : TextSet → TextSet
behind_slash set [] = false
behind_slash set (b ∷ bs) = is_slash b && set bs

-- The first component is this one, and what follows it is in the set.
abbrev pub named_then : List ℕ → TextSet → TextSet
named_then name set rest = bytes_eq (component rest) name && set (behind_component rest)

abbrev pub inner : List ℕ → List ℕ
inner rest = drop 1 (behind_component rest)

-- ---- ends

-- The texts behind a directory's slash that lead to the end; the name and the path information of each; what stands
-- there, and the directories that were followed.
pub record WalkEnd : Type 0 where
  pub rests : TextSet
  pub name : List ℕ → List ℕ
  pub info : List ℕ → List ℕ
  pub kind : Kind
  pub dirs : List Path

-- A directory that is followed: its path, this with a slash, and all directories up to it.
pub record Followed : Type 0 where
  pub front : Path
  pub path : Path
  pub dirs : List Path

abbrev pub at_root : Followed
at_root = record { path = root; front = root; dirs = root ∷ [] }

abbrev pub into : Followed → List ℕ → Followed
into at name = record {
  path = at.front ++ name;
  front = (at.front ++ name) ++ slash ∷ [];
  dirs = at.dirs ++ (at.front ++ name) ∷ [];
}

-- The text with a slash.
abbrev pub front_end : Followed → WalkEnd
front_end at = record {
  rests = is_empty;
  name = λ rest. at.front;
  info = λ rest. [];
  kind = kind.Dir;
  dirs = at.dirs;
}

abbrev pub dir_end : Followed → List ℕ → WalkEnd
dir_end at name = record {
  rests = named_then name is_empty;
  name = λ rest. at.front ++ name;
  info = λ rest. [];
  kind = kind.Dir;
  dirs = at.dirs ++ (at.front ++ name) ∷ [];
}

abbrev pub any_rest : TextSet
any_rest rest = true

-- A file with what follows it.
abbrev pub file_end : Followed → List ℕ → WalkEnd
file_end at name = record {
  rests = named_then name any_rest;
  name = λ rest. at.front ++ name;
  info = behind_component;
  kind = kind.File;
  dirs = at.dirs;
}

abbrev pub is_absent : Kind → Bool
is_absent kind.Absent = true
is_absent kind.Dir = false
is_absent kind.File = false

abbrev pub absent_end : Shown → Followed → WalkEnd
absent_end shown at = record {
  rests = λ rest. not (is_empty rest) && is_absent (shown (KindOf (at.front ++ component rest)));
  name = λ rest. at.front ++ component rest;
  info = behind_component;
  kind = kind.Absent;
  dirs = at.dirs;
}

-- An end below a directory, by what follows the slash of the one above.
abbrev pub below : List ℕ → WalkEnd → WalkEnd
below name end = record {
  rests = named_then name (behind_slash end.rests);
  name = λ rest. end.name (inner rest);
  info = λ rest. end.info (inner rest);
  kind = end.kind;
  dirs = end.dirs;
}

abbrev pub ends_by : (Followed → List WalkEnd) → Followed → List ℕ → Kind → List WalkEnd
ends_by further at name kind.Absent = []
ends_by further at name kind.File = file_end at name ∷ []
ends_by further at name kind.Dir = dir_end at name ∷ map (below name) (further (into at name))

abbrev pub ends_named : (Followed → List WalkEnd) → Shown → Followed → List ℕ → List WalkEnd
ends_named further shown at name = ends_by further at name (shown (KindOf (at.front ++ name)))

abbrev pub names_at : Shown → Path → List (List ℕ)
names_at shown path = unwrap_or (shown (NamesOf path)) []

-- So many levels of directories, from this one down.
unfoldable pub ends_in : ℕ → Shown → Followed → List WalkEnd
ends_in zero shown at = []
ends_in (suc levels) shown at =
    front_end at ∷ flat_map (ends_named (λ at. ends_in levels shown at) shown at) (names_at shown at.path)
    ++ absent_end shown at ∷ []

-- ---- worlds

-- What stands at a name behind a front is among the names of a path.
abbrev pub AreNames : Shown → Path → Path → Type 0
AreNames shown path front =
    (name : List ℕ) → is_empty name ≡ false → list_any is_slash name ≡ false
    → is_absent (shown (KindOf (front ++ name))) ≡ false → Among name (names_at shown path)

-- The names of a directory are all that stands in it, nothing stands by its text with a slash, and no directory's path
-- is longer than so many levels. The root is there.
pub record IsListed (levels : ℕ) (shown : Shown) : Type 0 where
  pub root_stands : is_absent (shown (KindOf root)) ≡ false
  pub fronts : (path : Path) → shown (KindOf path) ≡ kind.Dir
      → is_absent (shown (KindOf (path ++ slash ∷ []))) ≡ true
  pub at_root : AreNames shown root root
  pub each : (path : Path) → shown (KindOf path) ≡ kind.Dir → AreNames shown path (path ++ slash ∷ [])
  pub short : (path : Path) → shown (KindOf path) ≡ kind.Dir → length path + 1 < levels
  pub some : 1 < levels

-- Each world is listed, as deep as paths may be long.
abbrev pub WorldsAreListed : Type 0
WorldsAreListed = (world : World) → IsWorld world → IsListed 4098 (shown_by world)

-- ---- the plan

abbrev pub rooted : WalkEnd → TextSet
rooted end = behind_slash end.rests

abbrev pub end_at : List WalkEnd → ℕ → Option WalkEnd
end_at [] place = None
end_at (end ∷ ends) zero = Some end
end_at (end ∷ ends) (suc place) = end_at ends place

-- The name and the path information, each a set of its own.
abbrev pub arrived : Option WalkEnd → Plan WalkEnd
arrived None = leave_out
arrived (Some end) =
    make second (λ text also. end.name (drop 1 text)) main main
    (make third (λ text also. end.info (drop 1 text)) main main
    (store ((Slot.Name, from_hand second) ∷ (Slot.Info, from_hand third) ∷ []) (done end)))

-- The file name is in hand.
unfoldable pub walk_plan : List WalkEnd → Plan WalkEnd
walk_plan ends = sort main (map rooted ends) (λ place. arrived (end_at ends place))

-- ---- agreement

-- The state at an end: the name and the path information are stored, and all texts are put down.
abbrev pub stored_at : State → List ℕ → List ℕ → State
stored_at before name info =
    record before { slots = put Slot.Info info (put Slot.Name name before.slots); texts = all_three [] }

abbrev pub WalkLike : State → State → WalkEnd → Way Outcome Walk → List Decision → Type 0
WalkLike before state end way decisions =
    (walk : Walk) × (way ≡ goes_on walk) × (decisions ≡ []) × (state ≡ stored_at before walk.name walk.info)
    × (end.kind ≡ walk.kind) × (end.dirs ≡ walk.dirs)

-- The walk of a text that begins with a slash and has no two of them: no run is left out, and each ends as the walk.
abbrev pub WalkAgrees : Type 0
WalkAgrees = (levels : ℕ) (shown : Shown) (state : State) → IsListed levels shown
    → begins_with_slash (pick state.texts main) ≡ true → has_double_slash (pick state.texts main) ≡ false
    → Like (WalkLike state) (run (walk_plan (ends_in levels shown at_root)) state)
    (steps.run (walk (pick state.texts main)) shown)

abbrev pub WalkHasBranch : Type 0
WalkHasBranch = (levels : ℕ) (shown : Shown) (known : AbsState) (state : State) (branches : List (Branch WalkEnd))
    → IsListed levels shown → begins_with_slash (pick state.texts main) ≡ true
    → has_double_slash (pick state.texts main) ≡ false → Covers known state
    → Branches (walk_plan (ends_in levels shown at_root)) known branches
    → BranchLike (WalkLike state) (steps.run (walk (pick state.texts main)) shown) branches
