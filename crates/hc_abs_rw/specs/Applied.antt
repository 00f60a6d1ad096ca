-- What is found where a rule matched, as the ends of its plan.
use Rattle.std.specs.Prelude.{◌≡◌, ℕ, List, [], Bool, Option, None, Some, if◌then◌else◌}
use Rattle.hc_addr.specs.declared.addr.Addr.{Addr}
use Rattle.hc_dfa.specs.Automata.{Automaton}
use Rattle.hc_dfa.specs.Built.{Accepts}
use Rattle.hc_dfa.specs.Singles.{single}
use Rattle.hc_model.specs.declared.request.Caller.{Caller}
use Rattle.hc_model.specs.declared.rewrite.EnvSet.{EnvSet}
use Rattle.hc_model.specs.declared.rewrite.Rule.{Rule}
use Rattle.hc_model.specs.declared.template.Piece.{Piece}
use Rattle.hc_plan.specs.Branches.{Branch}
use Rattle.hc_plan.specs.Coded.{AreBranches}
use Rattle.hc_plan.specs.Hands.{cell_of}
use Rattle.hc_plan.specs.Plan.{Plan}
use Rattle.hc_plan.specs.States.{AbsState, this}
use Rattle.hc_plan.specs.Ways.{IsHandSet}
use Rattle.hc_plan.specs.declared.hand.Element.{Element}
use Rattle.hc_plan.specs.declared.storing.Tied.{Tied}
use Rattle.hc_template.specs.Variables.{origin}
use Rattle.hc_abs_rw.specs.Elements.{AreExpanded}
use Rattle.hc_abs_rw.specs.Frames.{Frame}
use Rattle.hc_abs_rw.specs.Known.{Fits, client_given}
use Rattle.hc_abs_rw.specs.Substitutions.{Made, Setting, Then, applied_plan, goes_on, outside, redirect, set_by}
use Rattle.hc_abs_rw.specs.Substitutions.{sets_plan, status}
use Rattle.hc_abs_rw.specs.declared.apply.Applied.{Applied}
use Rattle.hc_abs_rw.specs.declared.apply.Made.{Made as MadeOf}
use Rattle.hc_abs_rw.specs.declared.apply.Next.{Next}
use Rattle.hc_abs_rw.specs.declared.apply.Next.TheVariants as next
use Rattle.hc_abs_rw.specs.declared.known.Known.{Known}

-- ---- ends

-- The server's own name in front of a location, or nothing.
abbrev pub front_by : Bool → Caller → List ℕ
front_by own caller = if own then origin caller else []

abbrev pub next_of : Caller → Next → Then
next_of caller next.GoesOn = goes_on
next_of caller (next.Status number) = status number
next_of caller (next.Redirect number own noescape) = redirect number (front_by own caller) noescape
next_of caller (next.Outside reason) = outside reason

abbrev pub made_of : Caller → MadeOf → Made
made_of caller made =
    record { substituted = made.substituted; replaced = made.replaced; next = next_of caller made.next }

-- What groups hold isn't looked at any more.
pub record TiedFits (client : Option Addr) (tied : Tied) (state : AbsState) : Type 0 where
  pub cell : state.cell ≡ cell_of tied.cell
  pub ties : state.ties ≡ tied.ties
  pub looked : state.given.third ≡ λ at. this []
  pub printed : state.printed ≡ client_given client

pub record AppliedFits (client : Option Addr) (caller : Caller) (applied : Applied) (branch : Branch Made) : Type 0
  where
    pub known : TiedFits client applied.tied branch.0
    pub made : branch.1 ≡ made_of caller applied.made

-- What is found from what is known, by a plan.
abbrev pub AreFrom : Option Addr → Caller → Plan Made → Known → List Applied → Type 0
AreFrom client caller plan known found =
    (state : AbsState) → Fits client known state → AreBranches (AppliedFits client caller) plan state found

-- What is found where a rule matched.
abbrev pub AreApplied : Frame → Option Addr → Rule → Setting → Known → List Applied → Type 0
AreApplied frame client rule setting = AreFrom client frame.caller (applied_plan frame rule setting)

-- ---- variables

-- What is found from what is known then is what is found from what is known before.
abbrev pub SetsBy : Option Addr → Caller → (Plan Made → Plan Made) → Known → Known → Type 0
SetsBy client caller leads known left = (plan : Plan Made) (found : List Applied)
    → AreFrom client caller plan left found → AreFrom client caller (leads plan) known found

abbrev pub IsSetBy : Frame → Option Addr → EnvSet → Known → Known → Type 0
IsSetBy frame client set = SetsBy client frame.caller (set_by frame set.name set.value)

abbrev pub AreSet : Frame → Option Addr → List EnvSet → Known → Known → Type 0
AreSet frame client sets = SetsBy client frame.caller (sets_plan frame sets)

-- The texts that a variable may get.
abbrev pub IsSetTo : Frame → Option Addr → Known → Option (List Piece) → Automaton → Type 0
IsSetTo frame client known None set = Accepts set (single [])
IsSetTo frame client known (Some template) set =
    (elements : List Element) × AreExpanded frame client known template elements
    × IsHandSet known.cell elements 0 None set
