-- The branches from a further round of a list of rules of which no more is known than whose list it is. Our own choice.
use Rattle.std.specs.Prelude.{◌≡◌, ℕ, List, [], ◌∷◌, Bool, true, false, ◌&&◌, Option, None, Some}
use Rattle.std.specs.Str.{bytes_eq}
use Rattle.hc_dfa.specs.Texts.{TextSet}
use Rattle.hc_merge.specs.Candidates.{Candidate}
use Rattle.hc_merge.specs.Order.{ordered_sections}
use Rattle.hc_merge.specs.Overriding.{Files_at}
use Rattle.hc_merge.specs.Settings.{merged}
use Rattle.hc_model.specs.declared.outcome.Outcome.{Outcome}
use Rattle.hc_plan.specs.Branches.{Both, Branch, Branches, OnSide, with_given}
use Rattle.hc_plan.specs.Plan.{Plan, and_then, done, held, leave_out, let_go, put_down}
use Rattle.hc_plan.specs.Slots.{Slot}
use Rattle.hc_plan.specs.States.{AbsState, open_slot, some_of, whole, with_text}
use Rattle.hc_plan.specs.Texts.{any, of_bytes}
use Rattle.hc_steps.specs.Run.{Way, goes_on, is_over}
use Rattle.hc_abs_rw.specs.Lists.{SoFar}
use Rattle.hc_abs_rw.specs.Templates.{looked, main}
use Rattle.hc_abs_pass.specs.Passing.{Ground, Segment, Settings, dir_round_plan, engine_by, files_at, scene_with}
use Rattle.hc_abs_pass.specs.Passing.{server_round_plan}
use Rattle.hc_abs_pass.specs.Sections.{sections_plan}
use Rattle.hc_abs_pass.specs.Walks.{WalkEnd, at_root, behind_slash, ends_in, is_empty}

-- The names that lead to an end with no path information.
abbrev pub exactly : WalkEnd → TextSet
exactly end = behind_slash (λ rest. end.rests rest && is_empty (end.info rest))

-- A list goes on, and nothing was decided yet. Whether a substitution was made in the pass is a case.
abbrev pub begun_again : Bool → SoFar
begun_again substituted = record { decisions = []; substituted = substituted; replaced = true }

abbrev pub is_list_of : List ℕ → Option (List ℕ) → Bool
is_list_of dir None = false
is_list_of dir (Some own) = bytes_eq own dir

module _ (ground : Ground) where
  -- ---- the server's list

  abbrev pub from_server : Bool → Plan Segment
  from_server substituted = server_round_plan ground (begun_again substituted)

  -- ---- where a directory's list is in force

  abbrev pub settings_at : WalkEnd → List Candidate → Settings
  settings_at end kept = record {
    force = merged ground.site.config ground.site.host kept;
    aliased = false;
    end = end;
  }

  abbrev pub where_of : List ℕ → Settings → Plan Settings
  where_of dir settings = elim (is_list_of dir settings.force.dir) [
    | true ↦ put_down (let_go looked (done settings))
    | false ↦ leave_out
  ]

  -- The sections saw another query, of which nothing is known.
  abbrev pub sections_at : List ℕ → WalkEnd → Files_at → Plan Settings
  sections_at dir end files =
      and_then (sections_plan ground.merges (scene_with ground (held looked 0)) [] [] []
      (ordered_sections ground.site.config ground.site.host files end.dirs))
      (λ kept. where_of dir (settings_at end kept))

  -- A file that is refused ends the pass, so that no round follows.
  abbrev pub files_left_at : List ℕ → WalkEnd → Way Outcome Files_at → Plan Settings
  files_left_at dir end (goes_on files) = sections_at dir end files
  files_left_at dir end (is_over outcome) = leave_out

  abbrev pub again_at : List ℕ → WalkEnd → Plan Settings
  again_at dir end = put_down (files_left_at dir end (files_at ground end))

  -- The file name is walked again, and any query is held.
  abbrev pub named : AbsState → AbsState
  named state = with_given (with_text state main (whole (open_slot Slot.Name 0 ∷ []))) looked
      (λ at. some_of (of_bytes any))

  abbrev pub AreAtEnd : List ℕ → AbsState → WalkEnd → List (Branch Settings) → Type 0
  AreAtEnd dir state end = OnSide (named state) main (exactly end) (λ now. Branches (again_at dir end) now)

  -- At each end, in order.
  abbrev pub AreAtEnds : List ℕ → AbsState → List WalkEnd → List (Branch Settings) → Type 0
  AreAtEnds dir state [] places = places ≡ []
  AreAtEnds dir state (end ∷ ends) places = Both (AreAtEnd dir state end) (AreAtEnds dir state ends) places

  -- ---- a directory's list

  -- Whether the name comes from an alias is a case.
  abbrev pub from_dir : List ℕ → Bool → Settings → Plan Segment
  from_dir dir aliased settings =
      let own = record settings { aliased = aliased } in
      dir_round_plan ground own (engine_by ground own dir) (begun_again false)

  abbrev pub AreFromPlace : List ℕ → Branch Settings → List (Branch Segment) → Type 0
  AreFromPlace dir place =
      Both (Branches (from_dir dir false place.1) place.0) (Branches (from_dir dir true place.1) place.0)

  abbrev pub AreFromPlaces : List ℕ → List (Branch Settings) → List (Branch Segment) → Type 0
  AreFromPlaces dir [] found = found ≡ []
  AreFromPlaces dir (place ∷ places) found = Both (AreFromPlace dir place) (AreFromPlaces dir places) found

  abbrev pub AreFromDir : List ℕ → AbsState → List (Branch Segment) → Type 0
  AreFromDir dir state found = (places : List (Branch Settings))
      × AreAtEnds dir state (ends_in ground.levels ground.shown at_root) places × AreFromPlaces dir places found
