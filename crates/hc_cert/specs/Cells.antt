-- The states of named cells, and to which cell a branch leads. Our own choice.
use Rattle.std.specs.Prelude.{◌≡◌, ◌⊎◌, ℕ, List, [], ◌∷◌, Bool, true, false, not, ◌&&◌, ◌||◌, Option, None, Some, codes}
use Rattle.std.specs.Option.{option_map}
use Rattle.std.specs.Str.{bytes_eq}
use Rattle.std.specs.declared.cmp.Ordering.TheVariants.{Less}
use Rattle.hc_base.specs.Paths.{is_clean}
use Rattle.hc_cells.specs.Cells.{Sets, holds}
use Rattle.hc_cells.specs.Slots.{slot_cmp}
use Rattle.hc_dfa.specs.Texts.{IsLeast, TextSet}
use Rattle.hc_invariant.specs.declared.cut.Cut.{Cut}
use Rattle.hc_invariant.specs.declared.cut.Cut.TheVariants as cut
use Rattle.hc_invariant.specs.declared.named.NamedCell.{NamedCell}
use Rattle.hc_plan.specs.Branches.{no_text}
use Rattle.hc_plan.specs.Slots.{Slot, Ties}
use Rattle.hc_plan.specs.States.{AbsState, this}
use Rattle.hc_plan.specs.Texts.{all_three, any, of_bytes}
use Rattle.hc_scope.specs.Clients.{clients_of}
use Rattle.hc_scope.specs.declared.claim.Scope.{Scope}
use Rattle.hc_abs_pass.specs.Ends.{next_pass}
use Rattle.hc_abs_pass.specs.Passing.{Finish, dir_round, server_round, stopped}
use Rattle.hc_abs_pass.specs.Walks.{is_empty}
use Rattle.hc_abs_rw.specs.Known.{client_given}
use Rattle.hc_abs_start.specs.Starts.{sole_client}

-- ---- the states of a cell

-- Where END was met, and where it was not.
abbrev pub is_end : TextSet
is_end text = is_empty text || bytes_eq text (codes "1")

-- What a slot always holds there. Before a pass no file is found yet.
abbrev pub always : Cut → Slot → TextSet
always at Slot.Path = is_clean
always at Slot.End = is_end
always cut.Pass Slot.Text = is_clean
always cut.Pass Slot.Name = is_empty
always cut.Pass Slot.Info = is_empty
always at other = any

-- Before a pass the path is rewritten: both have one text.
abbrev pub own_set : Cut → Sets → Slot → TextSet
own_set cut.Pass sets Slot.Path text = holds sets Slot.Path text && holds sets Slot.Text text
own_set cut.Pass sets Slot.Text text = holds sets Slot.Path text && holds sets Slot.Text text
own_set at sets slot text = holds sets slot text

abbrev pub cell_at : Cut → Sets → Slot → TextSet
cell_at at sets slot = of_bytes (λ text. own_set at sets slot text && always at slot text)

abbrev pub cell_in : NamedCell → Slot → TextSet
cell_in own = cell_at own.at own.cell

abbrev pub ties_at : Cut → Ties
ties_at cut.Pass = record { origin_path = false; text_path = true; text_name = false; query_first = false }
ties_at other = record { origin_path = false; text_path = false; text_name = false; query_first = false }

-- What is known of the states of a cell, for the clients of a scope. Nothing is held, and no text is in hand.
abbrev pub known_in : Scope → NamedCell → AbsState
known_in scope own = record {
  cell = cell_in own;
  ties = ties_at own.at;
  given = all_three (λ at. this []);
  texts = all_three no_text;
  clients = clients_of scope.client;
  printed = client_given (sole_client scope.client);
}

-- ---- arrivals

-- Where a branch leads, unless it ends the request.
abbrev pub led_to : Finish → Option Cut
led_to (stopped next_pass) = Some cut.Pass
led_to (server_round rule so_far) = Some cut.Server
led_to (dir_round settings rule so_far) = option_map cut.Dir settings.force.dir
led_to other = None

abbrev pub same_cut : Cut → Cut → Bool
same_cut cut.Pass cut.Pass = true
same_cut cut.Server cut.Server = true
same_cut (cut.Dir one) (cut.Dir other) = bytes_eq one other
same_cut one other = false

module _ (states : Slot → TextSet) where
  abbrev pub IsWithinAt : NamedCell → Slot → Type 0
  IsWithinAt own slot = (text : List ℕ) → states slot text ≡ true → cell_in own slot text ≡ true

  -- Each slot's texts are all of the cell.
  abbrev pub IsWithin : NamedCell → Type 0
  IsWithin own = (slot : Slot) → IsWithinAt own slot

  pub record LiesIn (at : Cut) (own : NamedCell) : Type 0 where
    pub cut : same_cut own.at at ≡ true
    pub within : IsWithin own

  -- They belong to the first cell of their cut that contains them.
  abbrev pub Belongs : Cut → List NamedCell → Option NamedCell → Type 0
  Belongs at [] found = found ≡ None
  Belongs at (own ∷ cells) found = (LiesIn at own × (found ≡ Some own))
      ⊎ ((LiesIn at own → ⊥) × Belongs at cells found)

  -- The least text outside, in the first slot that has one.
  pub record IsOutside (own : NamedCell) (text : List ℕ) : Type 0 where
    pub slot : Slot
    pub least : IsLeast (λ other. states slot other && not (cell_in own slot other)) text
    pub before : (other : Slot) → slot_cmp other slot ≡ Less → IsWithinAt own other

  -- What the first cell of this cut lacks. Where there is none, it is the empty text.
  abbrev pub Lacks : Cut → List NamedCell → List ℕ → Type 0
  Lacks at [] text = text ≡ []
  Lacks at (own ∷ cells) text = elim (same_cut own.at at) [
    | true ↦ IsOutside own text
    | false ↦ Lacks at cells text
  ]
