-- What is found where the pattern of a rule is looked for, as the ends of its plan.
use Rattle.std.specs.Prelude.{◌≡◌, ℕ, List, [], ◌∷◌, ◌++◌, Bool, Option, None, Some, if◌then◌else◌}
use Rattle.hc_addr.specs.declared.addr.Addr.{Addr}
use Rattle.hc_cells.specs.Cells.{Sets}
use Rattle.hc_cells.specs.declared.ties.Ties.{Ties}
use Rattle.hc_model.specs.declared.rewrite.Rule.{Rule}
use Rattle.hc_pattern.specs.Pattern.{Pattern}
use Rattle.hc_plan.specs.Branches.{Branch}
use Rattle.hc_plan.specs.Coded.{AreBranches}
use Rattle.hc_plan.specs.Hands.{cell_of}
use Rattle.hc_plan.specs.Plan.{Plan, done, put_down}
use Rattle.hc_plan.specs.States.{AbsState, this}
use Rattle.hc_plan.specs.Texts.{all_three}
use Rattle.hc_plan.specs.Ways.{Stands}
use Rattle.hc_plan.specs.declared.hand.Element.{Element}
use Rattle.hc_plan.specs.declared.hand.Way.{Way}
use Rattle.hc_rw_expand.specs.Contexts.{engine_of}
use Rattle.hc_rw_expand.specs.declared.context.Engine.{Engine as LentEngine}
use Rattle.hc_abs_rw.specs.Attempts.{pattern_plan, subject_plan}
use Rattle.hc_abs_rw.specs.Conditions.{find}
use Rattle.hc_abs_rw.specs.Frames.{Frame}
use Rattle.hc_abs_rw.specs.Known.{Fits, client_given}
use Rattle.hc_abs_rw.specs.Templates.{groups, main}
use Rattle.hc_abs_rw.specs.Trials.{IsHeld}
use Rattle.hc_abs_rw.specs.declared.pattern.Looked.{Looked}
use Rattle.hc_abs_rw.specs.declared.pattern.Subject.{Subject}

pub record LookedFits (client : Option Addr) (looked : Looked) (branch : Branch Bool) : Type 0 where
  pub known : Fits client looked.known branch.0
  pub holds : branch.1 ≡ looked.holds

-- Nothing is held.
pub record IsBare (client : Option Addr) (state : AbsState) : Type 0 where
  pub given : state.given ≡ all_three (λ at. this [])
  pub printed : state.printed ≡ client_given client

-- A pattern without negation sets the groups.
abbrev pub grouping_rule : Rule → Option Pattern
grouping_rule rule = if rule.negated then None else Some rule.pat

abbrev pub GroupsLeft : Option Pattern → List Element → ℕ → Way → Looked → Type 0
GroupsLeft None elements off way left = left.known.groups ≡ None
GroupsLeft (Some pattern) elements off way left = IsHeld pattern way.cell elements off way.side left.known.groups

-- What the pattern leaves, on one of its ways.
pub record IsLookedLeft (ties : Ties) (held : Bool) (pattern : Option Pattern) (elements : List Element) (off : ℕ)
    (way : Way) (left : Looked) :
    Type 0 where
  pub cell : left.known.cell ≡ way.cell
  pub ties_left : left.known.ties ≡ ties
  pub groups_left : GroupsLeft pattern elements off way left
  pub conds : left.known.cond_groups ≡ None
  pub holds : left.holds ≡ held

-- What is left of each way, and that it was added to what was found before.
abbrev pub LookedOn : Ties → Bool → Option Pattern → List Element → ℕ → Option Way → List Looked → Type 0
LookedOn ties held pattern elements off None found = found ≡ []
LookedOn ties held pattern elements off (Some way) found =
    (left : Looked) × (found ≡ left ∷ []) × IsLookedLeft ties held pattern elements off way left

abbrev pub AddsLookedOn : Ties → Bool → Option Pattern → List Element → ℕ → Option Way → List Looked → List Looked
    → Type 0
AddsLookedOn ties held pattern elements off way before after =
    (found : List Looked) × (after ≡ before ++ found) × LookedOn ties held pattern elements off way found

-- The plan that looks for it in the text in hand.
abbrev pub find_plan : Rule → Plan Bool
find_plan rule = find groups rule.pat rule.negated (λ holds. put_down (done holds))

-- What is found in a text.
abbrev pub AreFound : Option Addr → Rule → Subject → List Looked → Type 0
AreFound client rule subject found =
    (state : AbsState)
    → Stands subject.cell subject.ties subject.elements.items subject.off subject.side state main
    → IsBare client state → AreBranches (LookedFits client) (find_plan rule) state found

-- The text on a way.
pub record IsSubject (subject : Subject) (way : Way) (ties : Ties) (elements : List Element) (off : ℕ) : Type 0 where
  pub cell : subject.cell ≡ way.cell
  pub ties_are : subject.ties ≡ ties
  pub elements_are : subject.elements.items ≡ elements
  pub taken_off : subject.off ≡ off
  pub side : subject.side ≡ way.side

abbrev pub AddsLooked : Rule → Subject → List Looked → List Looked → Type 0
AddsLooked rule subject before after =
    (found : List Looked) × (after ≡ before ++ found) × ((client : Option Addr) → AreFound client rule subject found)

-- On a way of a test, behind so many bytes.
abbrev pub FoundOn : Rule → Ties → List Element → ℕ → Option Way → List Looked → Type 0
FoundOn rule ties elements off None found = found ≡ []
FoundOn rule ties elements off (Some way) found =
    (subject : Subject) × IsSubject subject way ties elements off
    × ((client : Option Addr) → AreFound client rule subject found)

abbrev pub AddsFoundOn : Rule → Ties → List Element → ℕ → Option Way → List Looked → List Looked → Type 0
AddsFoundOn rule ties elements off way before after =
    (found : List Looked) × (after ≡ before ++ found) × FoundOn rule ties elements off way found

-- What is found in a directory.
abbrev pub AreLookedIn : Option Addr → LentEngine → Rule → Sets → Ties → List Looked → Type 0
AreLookedIn client engine rule sets ties found =
    (state : AbsState) → state.cell ≡ cell_of sets → state.ties ≡ ties → IsBare client state
    → AreBranches (LookedFits client) (subject_plan (Some (engine_of engine)) (find_plan rule)) state found

abbrev pub AddsSubject : LentEngine → Rule → Sets → Ties → List Looked → List Looked → Type 0
AddsSubject engine rule sets ties before after =
    (found : List Looked) × (after ≡ before ++ found)
    × ((client : Option Addr) → AreLookedIn client engine rule sets ties found)

abbrev pub AreLooked : Frame → Option Addr → Rule → Sets → Ties → List Looked → Type 0
AreLooked frame client rule sets ties found =
    (state : AbsState) → state.cell ≡ cell_of sets → state.ties ≡ ties → IsBare client state
    → AreBranches (LookedFits client) (pattern_plan frame rule) state found
