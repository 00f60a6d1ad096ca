-- The branches of a walk, as code has them.
use Rattle.std.specs.Prelude.{◌≡◌, ℕ, zero, suc, ◌+◌, ◌-◌, List, [], ◌∷◌, ◌++◌, length, drop, Bool, true, false}
use Rattle.std.specs.Prelude.{not, ◌&&◌, Option, Some, None}
use Rattle.std.specs.List.{flat_map, list_any}
use Rattle.std.specs.Str.{bytes_eq}
use Rattle.hc_addr.specs.declared.addr.Addr.{Addr}
use Rattle.hc_base.specs.Bytes.{slash}
use Rattle.hc_base.specs.Paths.{begins_with_slash}
use Rattle.hc_dfa.specs.Automata.{Automaton, accepts}
use Rattle.hc_dfa.specs.Built.{Accepts}
use Rattle.hc_dfa.specs.Texts.{IsText, TextSet}
use Rattle.hc_model.specs.World.{root}
use Rattle.hc_model.specs.declared.read.Read.TheVariants.{KindOf}
use Rattle.hc_model.specs.declared.walk.Kind.{Kind}
use Rattle.hc_model.specs.declared.walk.Kind.TheVariants as kind
use Rattle.hc_pat_lang.specs.Sets.{AcceptsOnly}
use Rattle.hc_plan.specs.Branches.{Branch}
use Rattle.hc_plan.specs.Coded.{AreBranches}
use Rattle.hc_plan.specs.Slots.{Slot}
use Rattle.hc_plan.specs.States.{AbsState, this}
use Rattle.hc_plan.specs.Stores.{Stores}
use Rattle.hc_plan.specs.Texts.{all_three}
use Rattle.hc_plan.specs.Ways.{IsHandSet, IsTested, on}
use Rattle.hc_plan.specs.declared.hand.Way.{Way}
use Rattle.hc_rw_sets.specs.Made.{MadeOf}
use Rattle.hc_steps.specs.Step.{Path, Shown}
use Rattle.hc_abs_rw.specs.Drafts.{InHand}
use Rattle.hc_abs_rw.specs.RuleBranches.{Rests}
use Rattle.hc_abs_pass.specs.Walks.{IsListed, WalkEnd, at_root, behind_component, component, ends_in, is_absent}
use Rattle.hc_abs_pass.specs.Walks.{is_empty, names_at, walk_plan}
use Rattle.hc_abs_pass.specs.declared.walk.Named.{Named}
use Rattle.hc_abs_pass.specs.declared.walk.Walked.{Walked}
use Rattle.hc_abs_pass.specs.declared.walk_ends.Behind.{Behind}
use Rattle.hc_abs_pass.specs.declared.walk_ends.Behind.TheVariants as behind
use Rattle.hc_abs_pass.specs.declared.walk_ends.Directory.{Directory}
use Rattle.hc_abs_pass.specs.declared.walk_ends.End.{End}
use Rattle.hc_abs_pass.specs.declared.walk_ends.Frame.{Frame}

-- ---- branches

-- The text is in hand, and nothing is held.
pub record HasName (named : Named) (client : Option Addr) (state : AbsState) : Type 0 where
  pub text : InHand named.tied named.text.items named.side client state
  pub given : state.given ≡ all_three (λ at. this [])

abbrev pub WalkedFits : Option Addr → Walked → Branch WalkEnd → Type 0
WalkedFits client walked branch =
    Rests client walked.tied branch.0 × (branch.1.kind ≡ walked.kind) × (branch.1.dirs ≡ walked.dirs)

-- These are the branches of the walk over a world, whatever number of levels has all of it.
abbrev pub AreWalked : Shown → Named → List Walked → Type 0
AreWalked shown named found = (client : Option Addr) (state : AbsState) (levels : ℕ) → IsListed levels shown
    → HasName named client state
    → AreBranches (WalkedFits client) (walk_plan (ends_in levels shown at_root)) state found

-- ---- ends

-- What may follow the name of a file: nothing, or a slash and more.
abbrev pub AreInfos : Automaton → Type 0
AreInfos set = Accepts set (λ text. is_empty (component text))

-- What follows the front of an end in its texts.
abbrev pub rests_of : Behind → TextSet
rests_of behind.Nothing = is_empty
rests_of behind.Info = λ rest. is_empty (component rest)
rests_of (behind.Other names) = λ rest. not (is_empty rest) && not (list_any (bytes_eq (component rest)) names)

-- The texts that lead to it.
pub record LeadsTo (end : End) (text : List ℕ) : Type 0 where
  pub rest : List ℕ
  pub is : text ≡ end.front ++ rest
  pub within : rests_of end.behind rest ≡ true

abbrev pub root_directory : Directory
root_directory = record { path = root; front = root; dirs = root ∷ [] }

-- The directory at a path in another one.
abbrev pub inside : Directory → Path → Directory
inside at path = record { path = path; front = path ++ slash ∷ []; dirs = at.dirs ++ path ∷ [] }

-- A directory by the text with a slash, and one by its name alone.
abbrev pub slashed : Directory → End
slashed at = record { front = at.front; behind = behind.Nothing; kind = kind.Dir; dirs = at.dirs }

abbrev pub unslashed : Directory → End
unslashed at = record { front = at.path; behind = behind.Nothing; kind = kind.Dir; dirs = at.dirs }

abbrev pub file_at : Directory → Path → End
file_at at path = record { front = path; behind = behind.Info; kind = kind.File; dirs = at.dirs }

-- The components by which something stands there: the names, and none where the front itself is something.
abbrev pub with_none : Bool → List (List ℕ) → List (List ℕ)
with_none true names = names
with_none false names = names ++ [] ∷ []

abbrev pub other_named : Shown → Directory → List (List ℕ) → End
other_named shown at names = record {
  front = at.front;
  behind = behind.Other (with_none (is_absent (shown (KindOf at.front))) names);
  kind = kind.Absent;
  dirs = at.dirs;
}

abbrev pub found_by : (Directory → List End) → Directory → Path → Kind → List End
found_by further at path kind.Absent = []
found_by further at path kind.File = file_at at path ∷ []
found_by further at path kind.Dir = unslashed (inside at path) ∷ further (inside at path)

abbrev pub found_named : (Directory → List End) → Shown → Directory → List ℕ → List End
found_named further shown at name = found_by further at (at.front ++ name) (shown (KindOf (at.front ++ name)))

-- All of a directory, so many levels down.
unfoldable pub all_in : ℕ → Shown → Directory → List End
all_in zero shown at = []
all_in (suc levels) shown at =
    slashed at ∷ flat_map (found_named (λ at. all_in levels shown at) shown at) (names_at shown at.path)
    ++ other_named shown at (names_at shown at.path) ∷ []

-- All ends of a world.
abbrev pub AreEnds : Shown → List End → Type 0
AreEnds shown ends = (levels : ℕ) → IsListed levels shown → ends ≡ all_in levels shown root_directory

-- ---- on the way

-- What is left of a directory that was entered, and of the others that were.
abbrev pub left_in : ℕ → Shown → Frame → List End
left_in levels shown frame =
    flat_map (found_named (λ at. all_in (levels - length frame.at.dirs) shown at) shown frame.at)
    (drop frame.next frame.names)
    ++ other_named shown frame.at frame.names ∷ []

abbrev pub all_left : ℕ → Shown → List Frame → List End
all_left levels shown [] = []
all_left levels shown (frame ∷ frames) = all_left levels shown frames ++ left_in levels shown frame

abbrev pub entered : Shown → Directory → Frame
entered shown at = record { at = at; names = names_at shown at.path; next = 0 }

abbrev pub one_on : Frame → Frame
one_on frame = record frame { next = frame.next + 1 }

-- What the next name of a frame adds: ends, and frames.
abbrev pub Added : Type 0
Added = List End × List Frame

abbrev pub added_by : Shown → Frame → Path → Kind → Added
added_by shown frame path kind.Absent = ([], frame ∷ [])
added_by shown frame path kind.File = (file_at frame.at path ∷ [], frame ∷ [])
added_by shown frame path kind.Dir = (
  unslashed (inside frame.at path) ∷ slashed (inside frame.at path) ∷ [],
  frame ∷ entered shown (inside frame.at path) ∷ [],
)

abbrev pub added_next : Shown → Frame → Option (List ℕ) → Added
added_next shown frame None = (other_named shown frame.at frame.names ∷ [], [])
added_next shown frame (Some name) =
    added_by shown (one_on frame) (frame.at.front ++ name) (shown (KindOf (frame.at.front ++ name)))

abbrev pub Adds : Added → List End → List End → List Frame → List Frame → Type 0
Adds added ends_before ends_after frames_before frames_after =
    (ends_after ≡ ends_before ++ added.0) × (frames_after ≡ frames_before ++ added.1)

-- ---- what code finds

-- The name of a text that leads to an end, where this follows the front.
abbrev pub name_of : List ℕ → List ℕ → List ℕ
name_of front rest = front ++ component rest

-- On a way to an end: its name and path information are stored.
pub record IsWalked (named : Named) (end : End) (way : Way) (walked : Walked) : Type 0 where
  pub bytes : IsText end.front
  pub texts : Automaton
  pub are_texts : IsHandSet way.cell named.text.items 0 way.side texts
  pub rests : Automaton
  pub are_rests : Accepts rests (λ rest. accepts texts (end.front ++ rest))
  pub names : Automaton
  pub are_names : AcceptsOnly (MadeOf (name_of end.front) (accepts rests)) names
  pub infos : Automaton
  pub are_infos : AcceptsOnly (MadeOf behind_component (accepts rests)) infos
  pub stored : Stores way.cell named.tied.ties
      (record { slot = Slot.Name; set = names } ∷ record { slot = Slot.Info; set = infos } ∷ []) walked.tied
  pub kind : walked.kind ≡ end.kind
  pub dirs : walked.dirs ≡ end.dirs

abbrev pub AreWalkedOn : Named → End → Option Way → List Walked → Type 0
AreWalkedOn named end None found = found ≡ []
AreWalkedOn named end (Some way) found = (walked : Walked) × (found ≡ walked ∷ []) × IsWalked named end way walked

-- The test for an end, and what is left of it.
pub record IsTried (named : Named) (end : End) (found : List Walked) : Type 0 where
  pub set : Automaton
  pub are : AcceptsOnly (LeadsTo end) set
  pub way : Option Way
  pub tested : IsTested named.tied.cell named.tied.ties named.text.items 0 named.side (on true (accepts set)) way
  pub left : AreWalkedOn named end way found

abbrev pub AreTried : Named → List End → List Walked → Type 0
AreTried named [] found = found ≡ []
AreTried named (end ∷ ends) found = (one : List Walked) × (other : List Walked) × (found ≡ one ++ other)
    × IsTried named end one × AreTried named ends other

abbrev pub AddsTried : Named → End → List Walked → List Walked → Type 0
AddsTried named end before after =
    (found : List Walked) × (after ≡ before ++ found) × IsTried named end found

-- A text that leads to an end begins with one slash.
abbrev pub leads_somewhere : TextSet
leads_somewhere text = begins_with_slash text && not (begins_with_slash (drop 1 text))

-- The test for the others.
pub record IsLeftOut (named : Named) (way : Option Way) : Type 0 where
  pub set : Automaton
  pub are : Accepts set leads_somewhere
  pub tested : IsTested named.tied.cell named.tied.ties named.text.items 0 named.side (on false (accepts set)) way
