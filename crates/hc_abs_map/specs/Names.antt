-- Texts in hand that become file names: those with slashes beside each other are merged, and a segment of dots is
-- outside.
use Rattle.std.specs.Prelude.{◌≡◌, ℕ, List, [], Bool, true, false, Option, None, Some}
use Rattle.std.specs.declared.alloc.Global.{Global}
use Rattle.std.specs.declared.vec.Vec.{Vec}
use Rattle.hc_addr.specs.declared.addr.Addr.{Addr}
use Rattle.hc_base.specs.Paths.{has_dots, has_double_slash, merge_slashes}
use Rattle.hc_cells.specs.declared.ties.Ties.{Ties}
use Rattle.hc_dfa.specs.Automata.{Automaton}
use Rattle.hc_dfa.specs.Texts.{IsText, TextSet}
use Rattle.hc_model.specs.declared.outcome.Reason.TheVariants.{DotSegment}
use Rattle.hc_plan.specs.Branches.{Branch, Tidies}
use Rattle.hc_plan.specs.Coded.{AreBranches}
use Rattle.hc_plan.specs.Plan.{Plan, done, test}
use Rattle.hc_plan.specs.States.{AbsState, AbsText, this, with_text}
use Rattle.hc_plan.specs.Texts.{all_three, pick}
use Rattle.hc_plan.specs.declared.hand.Element.{Element}
use Rattle.hc_plan.specs.declared.hand.Way.{Way}
use Rattle.hc_plan.specs.declared.storing.Tied.{Tied}
use Rattle.hc_abs_rw.specs.Drafts.{InHand}
use Rattle.hc_abs_rw.specs.Templates.{main}
use Rattle.hc_abs_pass.specs.Ends.{outside}
use Rattle.hc_abs_pass.specs.Mapping.{Placing, over}
use Rattle.hc_abs_pass.specs.Walking.{HasName}
use Rattle.hc_abs_pass.specs.declared.walk.Named.{Named}
use Rattle.hc_abs_map.specs.Along.{AreNamed, Goes}
use Rattle.hc_abs_map.specs.Mapped.{MappedFits}
use Rattle.hc_abs_map.specs.declared.mapped.Mapped.{Mapped}

-- ---- ways of a test

-- A text of these elements is in hand, and nothing is held.
pub record HasText (tied : Tied) (elements : List Element) (side : Option Automaton) (client : Option Addr)
    (state : AbsState) :
    Type 0 where
  pub text : InHand tied elements side client state
  pub given : state.given ≡ all_three (λ at. this [])

abbrev pub tied_by : Ties → Way → Tied
tied_by ties way = record { cell = way.cell; ties = ties }

module _ {A B : Type 0} (Fit : Option Addr → B → Branch A → Type 0) where
  -- What is found on a way of a test of it.
  abbrev pub OnText : Ties → List Element → Plan A → Option Way → List B → Type 0
  OnText ties elements plan None found = found ≡ []
  OnText ties elements plan (Some way) found = (client : Option Addr) (state : AbsState)
      → HasText (tied_by ties way) elements way.side client state → AreBranches (Fit client) plan state found

-- The text on a way.
abbrev pub named_on : Ties → Vec Element Global → Option Way → Option Named
named_on ties text None = None
named_on ties text (Some way) = Some (record { tied = tied_by ties way; text = text; side = way.side })

-- ---- slashes

-- Whether a text of the set has two slashes beside each other.
abbrev pub MeetsDoubled : TextSet → Bool → Type 0
MeetsDoubled set true = (x : List ℕ) × IsText x × (set x ≡ true) × (has_double_slash x ≡ true)
MeetsDoubled set false = (x : List ℕ) → IsText x → set x ≡ true → has_double_slash x ≡ false

-- The text with merged slashes.
abbrev pub IsTidied : Named → Named → Type 0
IsTidied named made = (client : Option Addr) (state : AbsState) → HasName named client state
    → (own : AbsText) × Tidies state has_double_slash merge_slashes (pick state.texts main) own
    × HasName made client (with_text state main own)

-- ---- dots

abbrev pub undotted_plan : Plan Placing → Plan Placing
undotted_plan plan = test main has_dots (λ dots. elim dots [
  | true ↦ done (over (outside DotSegment))
  | false ↦ plan
])

abbrev pub GoesUndotted : Named → Option Named → List Mapped → List Mapped → Type 0
GoesUndotted named rest = Goes (AreNamed MappedFits (Some named)) (AreNamed MappedFits rest) undotted_plan
