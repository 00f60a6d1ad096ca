-- What is found where a pattern and conditions are tried, as the ends of their plans.
use Rattle.std.specs.Prelude.{◌≡◌, ℕ, List, [], ◌∷◌, ◌++◌, Bool, false, not, Option, None, Some}
use Rattle.std.specs.Rc.{rc_value}
use Rattle.std.specs.declared.alloc.Global.{Global}
use Rattle.std.specs.declared.rc.Rc.{Rc}
use Rattle.hc_addr.specs.declared.addr.Addr.{Addr}
use Rattle.hc_cells.specs.Cells.{Sets}
use Rattle.hc_cells.specs.declared.ties.Ties.{Ties}
use Rattle.hc_dfa.specs.Automata.{Automaton}
use Rattle.hc_dfa.specs.Texts.{TextSet}
use Rattle.hc_model.specs.declared.event.Decision.{Decision}
use Rattle.hc_model.specs.declared.event.Decision.TheVariants as decision
use Rattle.hc_model.specs.declared.rewrite.Cond.{Cond}
use Rattle.hc_model.specs.declared.rewrite.CondKind.{CondKind}
use Rattle.hc_model.specs.declared.rewrite.CondKind.TheVariants.{Equals, IsDir, IsFile, Search}
use Rattle.hc_pattern.specs.Pattern.{Pattern, pattern_of}
use Rattle.hc_plan.specs.Branches.{Branch, finds}
use Rattle.hc_plan.specs.Coded.{AddsNext, AreNext, IsNext}
use Rattle.hc_plan.specs.Plan.{Plan}
use Rattle.hc_plan.specs.Ways.{IsTested, on}
use Rattle.hc_plan.specs.declared.hand.Element.{Element}
use Rattle.hc_plan.specs.declared.hand.Way.{Way}
use Rattle.hc_plan.specs.declared.held.Found.{Found}
use Rattle.hc_rw_eval.specs.Conditions.{is_text}
use Rattle.hc_abs_rw.specs.Conditions.{Tried, cond_plan, group_plan, names_dir, names_file, unless_held, while_held}
use Rattle.hc_abs_rw.specs.Frames.{Frame}
use Rattle.hc_abs_rw.specs.Known.{Fits, shown}
use Rattle.hc_abs_rw.specs.declared.conds.Trial.{Trial}
use Rattle.hc_abs_rw.specs.declared.known.Known.{Known}
use Rattle.hc_abs_rw.specs.declared.ways.Ways.{Ways}

-- ---- tests

-- The ways of a test by a set, its negation counted.
abbrev pub AreWays : Sets → Ties → List Element → ℕ → Option Automaton → Bool → TextSet → Ways → Type 0
AreWays sets ties elements off side negated set ways =
    IsTested sets ties elements off side (on (not negated) set) ways.held
    × IsTested sets ties elements off side (on negated set) ways.failed

-- What is held of a pattern that was found in a text of these elements.
abbrev pub IsHeld : {Z : Type 0} → Pattern → Sets → List Element → ℕ → Option Automaton → Option (Rc Found Z)
    → Type 0
IsHeld pattern sets elements off side None = ⊥
IsHeld pattern sets elements off side (Some found) =
    (pattern_of (rc_value found).pattern.now ≡ pattern) × ((rc_value found).cell ≡ sets)
    × ((rc_value found).elements.items ≡ elements) × ((rc_value found).off ≡ off) × ((rc_value found).side ≡ side)

-- What a condition tests, before its negation.
abbrev pub cond_set : Frame → CondKind → Bool → TextSet
cond_set frame (Search pattern) nocase = finds pattern
cond_set frame (Equals wanted) nocase = is_text nocase wanted
cond_set frame IsFile nocase = names_file frame
cond_set frame IsDir nocase = names_dir frame

-- The pattern of which a condition leaves the groups where it holds.
abbrev pub grouping_by : CondKind → Bool → Option Pattern
grouping_by (Search pattern) false = Some pattern
grouping_by other negated = None

abbrev pub grouping : Cond → Option Pattern
grouping cond = grouping_by cond.kind cond.negated

-- ---- conditions

pub record TrialFits (client : Option Addr) (trial : Trial) (branch : Branch Tried) : Type 0 where
  pub known : Fits client trial.known branch.0
  pub decisions : branch.1.decisions ≡ trial.decisions
  pub holds : branch.1.holds ≡ trial.holds

-- What `%0` to `%9` hold then.
abbrev pub CondsLeft : Option Pattern → Known → List Element → Sets → Option Automaton → Option (Rc Found Global) → Type 0
CondsLeft None before elements sets side held = shown held ≡ shown before.cond_groups
CondsLeft (Some pattern) before elements sets side held = IsHeld pattern sets elements 0 side held

-- What a condition leaves, on one of its ways.
pub record IsLeft (cond : Cond) (before : Trial) (held : Bool) (groups : Option Pattern) (elements : List Element)
    (way : Way) (left : Trial) :
    Type 0 where
  pub cell : left.known.cell ≡ way.cell
  pub ties : left.known.ties ≡ before.known.ties
  pub groups_left : shown left.known.groups ≡ shown before.known.groups
  pub conds : CondsLeft groups before.known elements way.cell way.side left.known.cond_groups
  pub decisions : left.decisions ≡ before.decisions ++ decision.Cond cond.place held ∷ []
  pub holds : left.holds ≡ held

-- What is left of each way, and that it was added to what was found before.
abbrev pub LeftOn : Cond → Trial → Bool → Option Pattern → List Element → Option Way → List Trial → Type 0
LeftOn cond before held groups elements None found = found ≡ []
LeftOn cond before held groups elements (Some way) found =
    (left : Trial) × (found ≡ left ∷ []) × IsLeft cond before held groups elements way left

abbrev pub AddsLeft : Cond → Trial → Bool → Option Pattern → List Element → Option Way → List Trial → List Trial → Type 0
AddsLeft cond before held groups elements way earlier later =
    (found : List Trial) × (later ≡ earlier ++ found) × LeftOn cond before held groups elements way found

-- What follows a trial by a plan that goes on with its decisions.
abbrev pub IsTriedBy : Option Addr → (List Decision → Plan Tried) → Trial → List Trial → Type 0
IsTriedBy client plan =
    IsNext (TrialFits client) (TrialFits client) (λ tried. plan tried.decisions)

-- What is found where a condition is tried.
abbrev pub IsTried : Frame → Option Addr → Cond → Trial → List Trial → Type 0
IsTried frame client cond = IsTriedBy client (λ so_far. cond_plan frame so_far cond)

abbrev pub AddsTried : Frame → Option Addr → Cond → Trial → List Trial → List Trial → Type 0
AddsTried frame client cond =
    AddsNext (TrialFits client) (TrialFits client) (λ tried. cond_plan frame tried.decisions cond)

-- Once a member of a group holds the others are skipped.
abbrev pub past_cond : Frame → Cond → Tried → Plan Tried
past_cond frame cond = unless_held (λ so_far. cond_plan frame so_far cond)

abbrev pub ArePast : Frame → Option Addr → Cond → List Trial → List Trial → Type 0
ArePast frame client cond = AreNext (TrialFits client) (TrialFits client) (past_cond frame cond)

-- Behind a group that doesn't hold none is tried.
abbrev pub past_group : Frame → List Cond → Tried → Plan Tried
past_group frame group = while_held (λ so_far. group_plan frame so_far group)

abbrev pub ArePastGroup : Frame → Option Addr → List Cond → List Trial → List Trial → Type 0
ArePastGroup frame client group = AreNext (TrialFits client) (TrialFits client) (past_group frame group)
