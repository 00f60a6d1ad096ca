-- What an entry leaves of the states of a set of requests.
use Rattle.std.specs.Prelude.{◌≡◌, List, [], false, Option, None, Some}
use Rattle.hc_addr.specs.declared.addr.Addr.{Addr}
use Rattle.hc_alias.specs.Tests.{is_below}
use Rattle.hc_cells.specs.declared.ties.Ties.{Ties}
use Rattle.hc_dfa.specs.Automata.{Automaton, accepts}
use Rattle.hc_dfa.specs.Built.{Accepts}
use Rattle.hc_dfa.specs.Texts.{TextSet}
use Rattle.hc_model.specs.declared.mapping.PathTest.{PathTest}
use Rattle.hc_model.specs.declared.mapping.PathTest.TheVariants.{Prefix, Search}
use Rattle.hc_model.specs.declared.mapping.Redirect.{Redirect}
use Rattle.hc_plan.specs.Branches.{Branch, finds}
use Rattle.hc_plan.specs.Coded.{AreBranches}
use Rattle.hc_plan.specs.Hands.{cell_of}
use Rattle.hc_plan.specs.Plan.{Plan}
use Rattle.hc_plan.specs.Slots.{Slot}
use Rattle.hc_plan.specs.States.{AbsState, AbsText, group, this}
use Rattle.hc_plan.specs.Texts.{all_three, pick, place}
use Rattle.hc_plan.specs.Ways.{IsHand}
use Rattle.hc_plan.specs.declared.hand.Element.{Element}
use Rattle.hc_plan.specs.declared.hand.Way.{Way}
use Rattle.hc_plan.specs.declared.storing.Tied.{Tied}
use Rattle.hc_abs_rw.specs.Drafts.{slot_alone}
use Rattle.hc_abs_rw.specs.Known.{client_given}
use Rattle.hc_abs_rw.specs.Templates.{groups}
use Rattle.hc_abs_rw.specs.Trials.{AreWays}
use Rattle.hc_abs_rw.specs.declared.ways.Ways.{Ways}
use Rattle.hc_abs_pass.specs.Mapping.{redirects_plan, sent_away}
use Rattle.hc_abs_map.specs.Along.{Adds, AreOn, Goes}
use Rattle.hc_abs_map.specs.Mapped.{RedirectedFits}
use Rattle.hc_abs_map.specs.declared.redirects.Redirected.{Redirected}

-- ---- one entry

-- The paths that it takes.
abbrev pub takes : PathTest → TextSet
takes (Prefix from) = is_below from
takes (Search pattern) = finds pattern

abbrev pub path_alone : List Element
path_alone = slot_alone Slot.Path

-- The ways of its test.
abbrev pub AreTaken : PathTest → Tied → Ways → Type 0
AreTaken test tied ways = (set : Automaton) × Accepts set (takes test)
    × AreWays tied.cell tied.ties path_alone 0 None false (accepts set) ways

-- What the groups hold on a way on which it takes the path.
abbrev pub HoldsGroups : PathTest → Way → AbsState → Type 0
HoldsGroups (Prefix from) way state = Unit {0}
HoldsGroups (Search pattern) way state = (own : AbsText) × IsHand state.cell path_alone 0 way.side own
    × (pick state.given groups ≡ group pattern state.cell own)

-- What is known there: nothing is held but the groups.
pub record IsTaken (client : Option Addr) (test : PathTest) (ties : Ties) (way : Way) (state : AbsState) :
    Type 0 where
  pub cell : state.cell ≡ cell_of way.cell
  pub ties_are : state.ties ≡ ties
  pub others : place groups (λ at. this []) state.given ≡ all_three (λ at. this [])
  pub printed : state.printed ≡ client_given client
  pub holds : HoldsGroups test way state

-- The states of the way on which it doesn't.
abbrev pub tied_on : Ties → Option Way → Option Tied
tied_on ties None = None
tied_on ties (Some way) = Some (record { cell = way.cell; ties = ties })

module _ {A B : Type 0} (Fit : Option Addr → B → Branch A → Type 0) where
  -- On a way on which it takes the path.
  abbrev pub OnTaken : PathTest → Ties → Plan A → Option Way → List B → Type 0
  OnTaken test ties plan None found = found ≡ []
  OnTaken test ties plan (Some way) found = (client : Option Addr) (state : AbsState)
      → IsTaken client test ties way state → AreBranches (Fit client) plan state found

-- ---- redirects

abbrev pub GoesRedirects : List Redirect → Option Tied → Option Tied → List Redirected → List Redirected → Type 0
GoesRedirects redirects before rest =
    Goes (AreOn RedirectedFits before) (AreOn RedirectedFits rest) (redirects_plan Some redirects)

-- One that takes the path ends the pass.
abbrev pub AddsSent : Redirect → Ties → Option Way → List Redirected → List Redirected → Type 0
AddsSent redirect ties way = Adds (OnTaken RedirectedFits redirect.from ties (sent_away Some redirect) way)
