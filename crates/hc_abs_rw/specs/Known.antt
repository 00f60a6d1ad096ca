-- What code knows of a state while a rule is tried, as the state that plans speak of.
use Rattle.std.specs.Prelude.{◌≡◌, ℕ, [], Option, None, Some, option_map}
use Rattle.std.specs.Rc.{rc_value}
use Rattle.std.specs.declared.rc.Rc.{Rc}
use Rattle.hc_addr.specs.Printed.{printed}
use Rattle.hc_addr.specs.declared.addr.Addr.{Addr}
use Rattle.hc_model.specs.declared.walk.Kind.{Kind}
use Rattle.hc_pattern.specs.Pattern.{pattern_of}
use Rattle.hc_plan.specs.Hands.{cell_of}
use Rattle.hc_plan.specs.States.{AbsState, AbsText, Given, group, some_of, this}
use Rattle.hc_plan.specs.Texts.{any, of_bytes}
use Rattle.hc_plan.specs.Ways.{IsFound}
use Rattle.hc_plan.specs.declared.held.Found.{Found}
use Rattle.hc_rw_expand.specs.Contexts.{engine_of}
use Rattle.hc_rw_expand.specs.Lookups.{Values}
use Rattle.hc_steps.specs.Step.{Path}
use Rattle.hc_abs_rw.specs.Frames.{Frame, common}
use Rattle.hc_abs_rw.specs.declared.frame.Frame.{Frame as LentFrame}
use Rattle.hc_abs_rw.specs.declared.known.Known.{Known}

-- ---- frames

-- The frame of a rule, by what stands at paths and what maps give.
abbrev pub frame_at : {S : Type 0} → (S → Path → Kind) → (S → Values) → LentFrame S → Frame
frame_at kind values frame = record {
  caller = common frame.tests.now;
  root = option_map (λ root. root.now) frame.root;
  engine = option_map engine_of frame.engine;
  kind = kind frame.around.now;
  values = values frame.around.now;
}

-- The client's address as it is printed.
abbrev pub client_given : Option Addr → Given
client_given (Some client) = this (printed client)
client_given None = some_of (of_bytes any)

-- ---- what is held

abbrev pub FoundFits : Option Found → (ℕ → Given) → Type 0
FoundFits None given = (number : ℕ) → given number ≡ this []
FoundFits (Some found) given =
    (own : AbsText) × IsFound found own × (given ≡ group (pattern_of found.pattern.now) (cell_of found.cell) own)

-- What is held in code, which its copies share.
abbrev pub shown : {Z : Type 0} → Option (Rc Found Z) → Option Found
shown held = option_map rc_value held

abbrev pub HeldFits : {Z : Type 0} → Option (Rc Found Z) → (ℕ → Given) → Type 0
HeldFits held = FoundFits (shown held)

-- What is held fits, and the client is one of these.
pub record Holds (client : Option Addr) (known : Known) (state : AbsState) : Type 0 where
  pub groups : HeldFits known.groups state.given.first
  pub conds : HeldFits known.cond_groups state.given.second
  pub printed : state.printed ≡ client_given client

-- What is known fits a state in which nothing is looked up.
pub record Fits (client : Option Addr) (known : Known) (state : AbsState) : Type 0 where
  pub cell : state.cell ≡ cell_of known.cell
  pub ties : state.ties ≡ known.ties
  pub holds : Holds client known state
  pub looked : state.given.third ≡ λ at. this []
