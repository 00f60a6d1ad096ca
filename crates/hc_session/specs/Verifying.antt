-- What a `verify` is answered. Our own choice.
use Rattle.std.specs.Prelude.{◌≡◌, ℕ, List, [], Bool, true, false, Option, Some, None, Result, Ok, Err}
use Rattle.std.specs.Option.{option_or}
use Rattle.hc_base.specs.declared.codes.TheConstants.{NO_SUCH_PLACE, SET_SYNTAX}
use Rattle.hc_base.specs.declared.place.Refusal.{Refusal}
use Rattle.hc_held.specs.Verdicts.{Accepted, Condition, Holds, IsVerdict, Rejected, Verdict}
use Rattle.hc_held.specs.Verdicts.condition
use Rattle.hc_held.specs.Claims.{Asked}
use Rattle.hc_invariant.specs.declared.named.NamedCell.{NamedCell}
use Rattle.hc_json.specs.Cells.{CellForm}
use Rattle.hc_json.specs.Claims.{ClaimForm, ScopeForm}
use Rattle.hc_json.specs.Command.{bad_line}
use Rattle.hc_json.specs.Reply as reply
use Rattle.hc_json.specs.Reply.{Reply}
use Rattle.hc_json.specs.declared.rejected.Condition.{Condition as Told}
use Rattle.hc_json.specs.declared.rejected.Condition.TheVariants as told
use Rattle.hc_model.specs.declared.config.Config.{Config}
use Rattle.hc_abs_pass.specs.Walks.{IsListed}
use Rattle.hc_stated.specs.Cells.{AreCells, CellSets, bad_in_cells, sets_of_cells}
use Rattle.hc_stated.specs.Stated.{Sets, bad_pattern, field_name, sets_of}
use Rattle.hc_stated.specs.declared.field.Field.{Field}
use Rattle.hc_stated.specs.declared.stated.BadPattern.{BadPattern}
use Rattle.hc_steps.specs.Shown.{shown_by}
use Rattle.hc_session.specs.Deciding.{IsAsked, Posed, bad_pattern_line, has_line, posed, refuses}
use Rattle.hc_session.specs.State.{State, present}

-- ---- the verdict

abbrev pub told_as : Condition → Told
told_as condition.Start = told.Start
told_as condition.Arrivals = told.Arrivals
told_as condition.Ends = told.Ends
told_as condition.Ranks = told.Ranks
told_as condition.Size = told.Size

abbrev pub verdict_reply : Verdict → Reply
verdict_reply Accepted = reply.accepted
verdict_reply (Rejected rejection) =
    reply.rejected rejection.branch rejection.cell (told_as rejection.condition) rejection.text

-- The verdict is the defined one, and what it says of the requests of the scope holds.
pub record IsVerified (asked : Asked) (cells : List NamedCell) (said : Reply) : Type 0 where
  pub verdict : Verdict
  pub is : (levels : ℕ) → IsListed levels (shown_by asked.world) → IsVerdict asked cells levels verdict
  pub holds : Holds asked verdict
  pub says : said ≡ verdict_reply verdict

-- ---- refusals, the first first

-- The first pattern that isn't read: those of the cells come last.
abbrev pub bad_of : Sets → List CellSets → Option BadPattern
bad_of sets own = option_or (bad_pattern sets) (bad_in_cells own)

module _ (posed : Posed) (sets : Sets) (own : List CellSets) where
  -- By whether the line that the claim speaks of is there.
  abbrev pub VerifiesLine : Config → Bool → Reply → Type 0
  VerifiesLine config false said = refuses (bad_line NO_SUCH_PLACE []) said
  VerifiesLine config true said =
      (asked : Asked) × (cells : List NamedCell) × IsAsked posed config sets asked × AreCells own cells
      × IsVerified asked cells said

  abbrev pub VerifiesSets : Config → Option BadPattern → Reply → Type 0
  VerifiesSets config (Some bad) said = refuses (bad_pattern_line bad) said
  VerifiesSets config None said = VerifiesLine config (has_line posed.world posed.lines posed.claim) said

  abbrev pub VerifiesUnder : Result Config Refusal → Reply → Type 0
  VerifiesUnder (Err refusal) said = refuses refusal said
  VerifiesUnder (Ok config) said = VerifiesSets config (bad_of sets own) said

-- By the shapes of the sets: those of the cells come last.
abbrev pub VerifiesFor : Posed → Result Config Refusal → Result Sets Field → Result (List CellSets) Field → Reply
    → Type 0
VerifiesFor posed built (Err field) own said = refuses (bad_line SET_SYNTAX (field_name field)) said
VerifiesFor posed built (Ok sets) (Err field) said = refuses (bad_line SET_SYNTAX (field_name field)) said
VerifiesFor posed built (Ok sets) (Ok own) said = VerifiesUnder posed sets own built said

-- ---- a command

-- It leaves all as it was.
abbrev pub VerifyTurn : State → ClaimForm → ScopeForm → List CellForm → Reply → State → Type 0
VerifyTurn state claim scope forms said new =
    VerifiesFor (posed state claim scope) (present state) (sets_of claim scope) (sets_of_cells forms) said
    × (new ≡ state)
