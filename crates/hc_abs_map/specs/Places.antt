-- What a pass goes on with behind the rules of the server, in code.
use Rattle.std.specs.Prelude.{◌≡◌, List, [], ◌∷◌, true, false, Option, None, Some}
use Rattle.hc_addr.specs.declared.addr.Addr.{Addr}
use Rattle.hc_base.specs.Paths.{begins_with_slash}
use Rattle.hc_plan.specs.Branches.{StoredIn, others}
use Rattle.hc_plan.specs.Plan.{Plan, done, from_hand, take_up, test}
use Rattle.hc_plan.specs.Slots.{Slot}
use Rattle.hc_plan.specs.States.{AbsState}
use Rattle.hc_plan.specs.declared.storing.Tied.{Tied}
use Rattle.hc_abs_rw.specs.Drafts.{slot_alone}
use Rattle.hc_abs_rw.specs.Templates.{main, slot_item}
use Rattle.hc_abs_pass.specs.Ends.{EndsAt, status}
use Rattle.hc_abs_pass.specs.Mapping.{Placing, over}
use Rattle.hc_abs_pass.specs.Walking.{HasName}
use Rattle.hc_abs_pass.specs.declared.walk.Named.{Named}
use Rattle.hc_abs_map.specs.Along.{AreOn, Goes}
use Rattle.hc_abs_map.specs.Mapped.{MappedFits}
use Rattle.hc_abs_map.specs.declared.mapped.Mapped.{Mapped}

-- A relative text is answered 400.
abbrev pub absolute_plan : Plan Placing → Plan Placing
absolute_plan plan =
    take_up main (slot_item Slot.Text ∷ []) (test main (others begins_with_slash) (λ relative. elim relative [
      | true ↦ done (over (status 400))
      | false ↦ plan
    ]))

abbrev pub GoesAbsolute : Tied → Option Tied → List Mapped → List Mapped → Type 0
GoesAbsolute tied rest = Goes (AreOn MappedFits (Some tied)) (AreOn MappedFits rest) absolute_plan

-- The value of the slot `text` becomes a name.
pub record IsTextName (tied : Tied) (made : Named) : Type 0 where
  pub tied_is : made.tied ≡ tied
  pub items : made.text.items ≡ slot_alone Slot.Text
  pub side : made.side ≡ None

-- The text becomes the URL path.
abbrev pub IsStored : Named → Tied → Type 0
IsStored named made = (client : Option Addr) (state : AbsState) → HasName named client state
    → (next : AbsState) × StoredIn state ((Slot.Path, from_hand main) ∷ []) state next × EndsAt client made next
