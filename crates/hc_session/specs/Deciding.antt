-- What a `decide` is answered. Our own choice.
use Rattle.std.specs.Prelude.{◌≡◌, ◌⊎◌, ℕ, [], Bool, true, false, ◌||◌, Option, Some, None, Result, Ok, Err}
use Rattle.hc_base.specs.declared.codes.TheConstants.{NO_SUCH_PLACE, SET_SYNTAX}
use Rattle.hc_base.specs.declared.place.Place.{Place}
use Rattle.hc_base.specs.declared.place.Refusal.{Refusal}
use Rattle.hc_broken.specs.Breaking.{has_place}
use Rattle.hc_held.specs.Claims.{Asked, Decided, Holds, IsDecided, MayRun}
use Rattle.hc_held.specs.Claims.decided
use Rattle.hc_claim_lines.specs.ClaimLines.{claim_lines, stands_in}
use Rattle.hc_claim_lines.specs.declared.lines.ClaimLines.{ClaimLines}
use Rattle.hc_claim_lines.specs.declared.subject.Subject.{Subject}
use Rattle.hc_claim_lines.specs.declared.subject.Subject.TheVariants as subject
use Rattle.hc_include.specs.Flat.{flat_of}
use Rattle.hc_json.specs.Claims.{ClaimForm, ScopeForm, guarded, shadowed, stops}
use Rattle.hc_json.specs.Command.{bad_line}
use Rattle.hc_json.specs.Reply as reply
use Rattle.hc_json.specs.Reply.{Reply}
use Rattle.hc_model.specs.World.{World}
use Rattle.hc_model.specs.declared.config.Config.{Config}
use Rattle.hc_abs_pass.specs.Walks.{IsListed}
use Rattle.hc_stated.specs.Stated.{IsClaim, IsScope, Sets, bad_pattern, field_name, sets_of}
use Rattle.hc_stated.specs.declared.field.Field.{Field}
use Rattle.hc_stated.specs.declared.stated.BadPattern.{BadPattern}
use Rattle.hc_steps.specs.Shown.{shown_by}
use Rattle.hc_session.specs.State.{State, present}

-- A claim on the requests of a scope, over files and the lines of a configuration that claims may speak of; and how many
-- branches it may have.
pub record Posed : Type 0 where
  pub claim : ClaimForm
  pub scope : ScopeForm
  pub world : World
  pub lines : ClaimLines
  pub limit : ℕ

-- The lines of the files that the main file leads to.
abbrev pub present_lines : State → ClaimLines
present_lines state = claim_lines (flat_of state.world.files state.main).entries

abbrev pub posed : State → ClaimForm → ScopeForm → Posed
posed state claim scope = record {
  claim = claim;
  scope = scope;
  world = state.world.files;
  lines = present_lines state;
  limit = state.limit;
}

-- ---- the line that it speaks of

-- One of the configuration's files, or of a `.htaccess` text.
abbrev pub is_there : World → ClaimLines → Subject → Place → Bool
is_there world lines subject.Rule place = has_place lines.rules place || stands_in world subject.Rule place
is_there world lines subject.Require place = has_place lines.guards place || stands_in world subject.Require place

abbrev pub has_line : World → ClaimLines → ClaimForm → Bool
has_line world lines stops = true
has_line world lines (shadowed place) = is_there world lines subject.Rule place
has_line world lines (guarded target by) = is_there world lines subject.Require by

-- ---- the answer

-- What is asked under a configuration, with the sets made.
pub record IsAsked (posed : Posed) (under : Config) (sets : Sets) (asked : Asked) : Type 0 where
  pub world : asked.world ≡ posed.world
  pub config : asked.config ≡ under
  pub claimed : IsClaim posed.claim sets.target asked.claim
  pub within : IsScope posed.scope sets asked.scope

abbrev pub decided_reply : Decided → Reply
decided_reply decided.Proved = reply.proved
decided_reply (decided.Refuted request run) = reply.refuted run.outcome request
decided_reply (decided.Undecided branch) = reply.undecided branch
decided_reply (decided.TooMany count) = reply.too_many count

-- The answer is the defined one, and what it says of the requests of the scope holds.
pub record IsAnswered (limit : ℕ) (asked : Asked) (said : Reply) : Type 0 where
  pub answer : Decided
  pub spent : ℕ
  pub is : (levels : ℕ) → IsListed levels (shown_by asked.world) → IsDecided asked limit levels spent answer
  pub holds : Holds asked answer
  pub says : said ≡ decided_reply answer

-- ---- refusals, the first first

abbrev pub refuses : Refusal → Reply → Type 0
refuses refusal said = said ≡ reply.refused refusal

-- A pattern, with the rule that it breaks at a byte of its text.
abbrev pub bad_pattern_line : BadPattern → Refusal
bad_pattern_line bad = record (bad_line bad.why.code (field_name bad.field)) { at = bad.why.at }

module _ (posed : Posed) where
  -- By whether the line that it speaks of is there.
  abbrev pub SaysOfLine : Config → Sets → Bool → Reply → Type 0
  SaysOfLine config sets false said = refuses (bad_line NO_SUCH_PLACE []) said
  SaysOfLine config sets true said = (asked : Asked) × IsAsked posed config sets asked × IsAnswered posed.limit asked said

  -- By the first pattern in the sets that isn't read.
  abbrev pub SaysOfSets : Config → Sets → Option BadPattern → Reply → Type 0
  SaysOfSets config sets (Some bad) said = refuses (bad_pattern_line bad) said
  SaysOfSets config sets None said = SaysOfLine config sets (has_line posed.world posed.lines posed.claim) said

  -- By the configuration.
  abbrev pub SaysUnder : Sets → Result Config Refusal → Reply → Type 0
  SaysUnder sets (Err refusal) said = refuses refusal said
  SaysUnder sets (Ok config) said = SaysOfSets config sets (bad_pattern sets) said

  -- By the shapes of the sets.
  abbrev pub SaysFor : Result Config Refusal → Result Sets Field → Reply → Type 0
  SaysFor built (Err field) said = refuses (bad_line SET_SYNTAX (field_name field)) said
  SaysFor built (Ok sets) said = SaysUnder sets built said

  -- Candidates of its branches were run, so many.
  pub record IsTried (built : Result Config Refusal) (count : ℕ) : Type 0 where
    pub sets : Sets
    pub are_sets : sets_of posed.claim posed.scope ≡ Ok sets
    pub config : Config
    pub is_built : built ≡ Ok config
    pub asked : Asked
    pub is : IsAsked posed config sets asked
    pub may : MayRun asked count

  abbrev pub Tries : Result Config Refusal → ℕ → Type 0
  Tries built count = (count ≡ 0) ⊎ IsTried built count

-- ---- a command

-- It leaves all as it was.
abbrev pub DecideTurn : State → ClaimForm → ScopeForm → Reply → State → Type 0
DecideTurn state claim scope said new =
    SaysFor (posed state claim scope) (present state) (sets_of claim scope) said × (new ≡ state)

-- So many candidates may be run for it.
abbrev pub MayTry : State → ClaimForm → ScopeForm → ℕ → Type 0
MayTry state claim scope count = Tries (posed state claim scope) (present state) count
