-- The parts of a template in code, as the items of a plan.
use Rattle.std.specs.Prelude.{◌≡◌, ℕ, List, [], nat_lt, if◌then◌else◌, Option, unwrap_or}
use Rattle.std.specs.declared.rc.Rc.{Rc}
use Rattle.hc_addr.specs.Printed.{printed}
use Rattle.hc_addr.specs.declared.addr.Addr.{Addr}
use Rattle.hc_model.specs.declared.request.Caller.{Caller}
use Rattle.hc_model.specs.declared.template.Piece.{Piece, out-Piece}
use Rattle.hc_model.specs.declared.template.Piece.TheOpen.{Piece-F, Lookup}
use Rattle.hc_plan.specs.Branches.{GivesFor}
use Rattle.hc_plan.specs.Coded.{AllFit}
use Rattle.hc_plan.specs.Hands.{cell_of, part_of}
use Rattle.hc_plan.specs.Plan.{Item}
use Rattle.hc_plan.specs.States.{AbsState, AreParts, Given, IsGiven, IsPart, Part, this, whole}
use Rattle.hc_plan.specs.declared.hand.Element.{Element}
use Rattle.hc_plan.specs.declared.held.Found.{Found}
use Rattle.hc_table.specs.declared.variable.Variable.{Variable}
use Rattle.hc_table.specs.declared.variable.Variable.TheVariants as variable
use Rattle.hc_template.specs.Variables.{Seen, value_of}
use Rattle.hc_abs_rw.specs.Frames.{Frame}
use Rattle.hc_abs_rw.specs.Known.{HeldFits, Holds, client_given}
use Rattle.hc_abs_rw.specs.Templates.{plain_item, plain_items}
use Rattle.hc_abs_rw.specs.declared.known.Known.{Known}

-- The element of an item of which the client alone is looked at.
abbrev pub IsItemOf : Option Addr → Item → Element → Type 0
IsItemOf client item made =
    (state : AbsState) → state.printed ≡ client_given client → IsPart state item (part_of made)

-- What a template's group stands for: it names the groups 0 to 9.
abbrev pub group_given : (ℕ → Given) → ℕ → Given
group_given given number = if nat_lt number 10 then given number else this []

-- The element of what a group holds.
abbrev pub IsGroupOf : {Z : Type 0} → Option (Rc Found Z) → ℕ → Element → Type 0
IsGroupOf groups number made =
    (given : ℕ → Given) → HeldFits groups given → IsGiven (group_given given number) (part_of made)

-- The element of a piece, look-ups left out, and those of pieces.
abbrev pub IsElementOf : Frame → Option Addr → Known → Piece → Element → Type 0
IsElementOf frame client known piece made =
    (state : AbsState) → Holds client known state → IsPart state (plain_item frame piece) (part_of made)

abbrev pub AreElementsOf : Frame → Option Addr → Known → List Piece → List Element → Type 0
AreElementsOf frame client known pieces made = AllFit (IsElementOf frame client known) pieces made

-- ---- look-ups

-- The element of what a map gives for a key, else the fallback.
pub record IsLookedUp (frame : Frame) (client : Option Addr) (known : Known) (name : List ℕ)
    (key fallback : List Piece) (made : Element) (state : AbsState) :
    Type 0 where
  pub keys : List Part
  pub fallbacks : List Part
  pub key_parts : AreParts state (plain_items frame key) keys
  pub fallback_parts : AreParts state (plain_items frame fallback) fallbacks
  pub given : Given
  pub gives : GivesFor state (frame.values name) (whole keys) (whole fallbacks) given
  pub is : IsGiven given (part_of made)

abbrev pub LooksUpTo : Frame → Option Addr → Known → List ℕ → List Piece → List Piece → Element → Type 0
LooksUpTo frame client known name key fallback made =
    (state : AbsState) → state.cell ≡ cell_of known.cell → Holds client known state
    → IsLookedUp frame client known name key fallback made state

-- The element of a piece of a template.
abbrev pub IsPieceOf : Frame → Option Addr → Known → Piece → Element → Piece-F Piece → Type 0
IsPieceOf frame client known piece made (Lookup name key fallback) = LooksUpTo frame client known name key fallback made
IsPieceOf frame client known piece made other = IsElementOf frame client known piece made

abbrev pub IsExpanded : Frame → Option Addr → Known → Piece → Element → Type 0
IsExpanded frame client known piece made = IsPieceOf frame client known piece made (out-Piece piece)

abbrev pub AreExpanded : Frame → Option Addr → Known → List Piece → List Element → Type 0
AreExpanded frame client known pieces made = AllFit (IsExpanded frame client known) pieces made

-- ---- values that all requests have in common

abbrev pub seen_alone : Caller → Seen
seen_alone caller = record { caller = caller; path = []; query = []; name = [] }

abbrev pub shared_value : Caller → Option (List ℕ) → Variable → List ℕ
shared_value caller root variable.DocumentRoot = unwrap_or root []
shared_value caller root variable.ServerAddr = printed caller.request.server
shared_value caller root other = value_of (seen_alone caller) other
