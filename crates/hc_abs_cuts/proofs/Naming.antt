-- The states in which a file name leads to an end.
use Rattle.hc_abs_cuts.proofs.Common.{◌≡◌, ◌∙◌, ℕ, List, [], ◌∷◌, Option, None, Some, refl, sym, ap, Automaton, accepts}
use Rattle.hc_abs_cuts.proofs.Common.{IsText, Branch, AllFit, AreBranches, AbsState, Tied, ground_in, Ground, Settings}
use Rattle.hc_abs_cuts.proofs.Common.{WalkEnd, End, Place}
use Rattle.std.proofs.Common.{inl, true}
use Rattle.hc_plan.proofs.Coded.{Follows, put_down_fits, side_fits}
use Rattle.hc_plan.specs.Branches.{without_texts}
use Rattle.hc_plan.specs.Plan.{Plan}
use Rattle.hc_plan.specs.Slots.{Slot}
use Rattle.hc_plan.specs.Texts.{any, of_bytes, place}
use Rattle.hc_plan.specs.States.{some_of}
use Rattle.hc_plan.specs.Ways.{IsTested, Stands, on}
use Rattle.hc_plan.specs.declared.hand.Way.{Way}
use Rattle.hc_abs_dir.proofs.Siding.{slot_alone}
use Rattle.hc_abs_dir.specs.Sides.{tied_on}
use Rattle.hc_abs_force.specs.Merging.{merges}
use Rattle.hc_abs_pass.specs.Passing.{files_at}
use Rattle.hc_abs_rw.specs.RuleBranches.{Rests}
use Rattle.hc_abs_rw.specs.Templates.{looked, main}
use Rattle.hc_abs_cuts.specs.Coded.{EndsSo, IsAtEnd, IsNamed, PlaceFits}
use Rattle.hc_abs_pass.specs.Again.{AreAtEnd, again_at, exactly, files_left_at, named}
use Rattle.hc_abs_cuts.specs.Exact.{exact_of}

module _ (ground : Ground) (dir : List ℕ) (tied : Tied) (state : AbsState) (rests : Rests ground.client tied state)
    (levels : ℕ) where
  abbrev own_name : AbsState
  own_name = named (ground_in levels merges ground) state

  stands : Stands tied.cell tied.ties (slot_alone Slot.Name) 0 None own_name main
  stands = record {
    holds = rests.cell;
    tied = rests.ties;
    hand = record { made = refl; behind = refl; lies = inl (λ x bytes. refl) };
  }

  -- What is found where the name leads to an end.
  module _ (end : WalkEnd) (found : List Place) where
    abbrev pub Later : Option Tied → Type 0
    Later None = found ≡ []
    Later (Some own) = (now : AbsState) → EndsSo ground dir own now
        → AreBranches (PlaceFits ground.client)
        (files_left_at (ground_in levels merges ground) dir end (files_at (ground_in levels merges ground) end)) now found

    follows : (way : Option Way) → Later (tied_on tied.ties way)
        → Follows (PlaceFits ground.client) tied.cell tied.ties (slot_alone Slot.Name) 0 None own_name main stands
        (λ now. now) (exactly end) (again_at (ground_in levels merges ground) dir end) way found
    follows None none = none
    follows (Some way) later = λ now stands keeps.
        put_down_fits (PlaceFits ground.client) now
        (files_left_at (ground_in levels merges ground) dir end (files_at (ground_in levels merges ground) end)) found
        (later (without_texts now) (
          stands.holds,
          stands.tied,
          keeps.given ∙ ap (λ given. place looked (λ at. some_of (of_bytes any)) given) rests.given,
          keeps.printed ∙ rests.printed,
        ))

    pub at_this_end : (set : Automaton) (way : Option Way) → ((x : List ℕ) → IsText x → exactly end x ≡ accepts set x)
        → IsTested tied.cell tied.ties (slot_alone Slot.Name) 0 None (on true (accepts set)) way
        → Later (tied_on tied.ties way)
        → (branches : List (Branch Settings))
        × AreAtEnd (ground_in levels merges ground) dir state end branches
        × AllFit (PlaceFits ground.client) found branches
    at_this_end set way alike tested later =
        side_fits (PlaceFits ground.client) tied.cell tied.ties (slot_alone Slot.Name) 0 None own_name main stands
        (λ now. now) (exactly end) (on true (accepts set)) (again_at (ground_in levels merges ground) dir end) way found
        alike tested (follows way later)
