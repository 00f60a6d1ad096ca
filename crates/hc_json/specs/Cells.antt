-- The cells of a `verify`: sets of states of requests, each where a part of their way begins. Sets of texts are still
-- values. Our own choice.
use Rattle.std.specs.Prelude.{ℕ, List, [], ◌∷◌, length, take, drop, nat_le, Bool, true, false, ◌&&◌, not, if◌then◌else◌}
use Rattle.std.specs.Prelude.{is_some, Option, Some, None, option_and_then, option_map, Result, Ok, codes}
use Rattle.std.specs.BTreeSet.{insert_key}
use Rattle.std.specs.Cmp.Lexicographic.{slice_cmp}
use Rattle.std.specs.Option.{option_or}
use Rattle.std.specs.Ordering.{nat_cmp}
use Rattle.std.specs.Result.{result_ok}
use Rattle.std.specs.Str.{bytes_eq, str_to_ascii_lowercase}
use Rattle.serde_json.specs.Data.{Data, Items, Members, item, member, no_items, no_members}
use Rattle.serde_json.specs.Find.{as_array, as_number, as_object, as_str, as_u64}
use Rattle.hc_base.specs.Paths.{begins_with_slash}
use Rattle.hc_json.specs.Fields.{no_other, optional, wanted, ◌>>=◌}
use Rattle.hc_json.specs.Forms.{is_taken, such_that}
use Rattle.hc_json.specs.declared.cells.TheConstants.{FIRST_ROUND, HIGHEST_RANK, LAST_ROUND}

-- Where a part of the way of a request begins: with a pass, or with a further round of the rules of the server or of a
-- directory.
pub data CutForm : Type 0 where
  pass : CutForm
  server : CutForm
  dir : List ℕ → CutForm

-- What a state holds a text for.
pub data SlotForm : Type 0 where
  origin : SlotForm
  path : SlotForm
  query : SlotForm
  text : SlotForm
  name : SlotForm
  info : SlotForm
  end : SlotForm
  method : SlotForm
  request : SlotForm
  -- the variable and the header of a name
  env : List ℕ → SlotForm
  header : List ℕ → SlotForm

-- A cell, with its sets by their slots.
pub record CellForm : Type 0 where
  pub at : CutForm
  pub rank : ℕ
  pub round : Option ℕ
  pub slots : List (SlotForm × Data)

-- ---- where it stands

abbrev pub cut_named : List ℕ → Option CutForm
cut_named label =
    if bytes_eq label (codes "pass") then Some pass
    else (if bytes_eq label (codes "server") then Some server
    else (if begins_with_slash label then Some (dir label)
    else None))

abbrev pub cut_from : Data → Option CutForm
cut_from d = option_and_then cut_named (as_str d)

abbrev pub cut_in : Data → Result CutForm (List ℕ)
cut_in d = wanted (codes "at") cut_from d

abbrev pub is_rank : ℕ → Bool
is_rank n = nat_le n HIGHEST_RANK

-- JSON writes a whole number without a sign, a fraction and an exponent.
abbrev pub rank_from : Data → Option ℕ
rank_from d = such_that is_rank (option_and_then as_u64 (as_number d))

abbrev pub rank_in : Data → Result ℕ (List ℕ)
rank_in d = wanted (codes "rank") rank_from d

abbrev pub is_round : ℕ → Bool
is_round n = nat_le FIRST_ROUND n && nat_le n LAST_ROUND

abbrev pub round_from : Data → Option ℕ
round_from d = such_that is_round (option_and_then as_u64 (as_number d))

-- A pass has no round.
abbrev pub round_at : CutForm → Data → Option (Option ℕ)
round_at pass d = None
round_at cut d = option_map Some (round_from d)

abbrev pub round_in : CutForm → Data → Result (Option ℕ) (List ℕ)
round_in cut d = optional (codes "round") None (round_at cut) d

-- ---- slots

-- What stands behind a front, where a text begins with it.
abbrev pub behind : List ℕ → List ℕ → Option (List ℕ)
behind front label =
    if bytes_eq (take (length front) label) front then Some (drop (length front) label)
    else None

-- The slot of a variable or a header.
abbrev pub variable_or_header : List ℕ → Option SlotForm
variable_or_header label =
    option_or (option_map env (behind (codes "env:") label)) (option_map header (behind (codes "header:") label))

-- One that has no name of its own.
abbrev pub plain_slot : List ℕ → Option SlotForm
plain_slot label =
    if bytes_eq label (codes "origin") then Some origin
    else (if bytes_eq label (codes "path") then Some path
    else (if bytes_eq label (codes "query") then Some query
    else (if bytes_eq label (codes "text") then Some text
    else (if bytes_eq label (codes "name") then Some name
    else (if bytes_eq label (codes "info") then Some info
    else (if bytes_eq label (codes "end") then Some end
    else (if bytes_eq label (codes "method") then Some method
    else (if bytes_eq label (codes "request") then Some request
    else None))))))))

abbrev pub slot_named : List ℕ → Option SlotForm
slot_named label = option_or (plain_slot label) (variable_or_header label)

-- A slot, and none of the headers of these names.
abbrev pub is_new : List (List ℕ) → Option SlotForm → Bool
is_new names None = false
is_new names (Some (header own)) = not (is_taken names (str_to_ascii_lowercase own))
is_new names (Some slot) = true

-- These names of headers, in lower case and in order, and the slot's own.
abbrev pub with_name : List (List ℕ) → Option SlotForm → List (List ℕ)
with_name names (Some (header own)) = insert_key (slice_cmp nat_cmp) names (str_to_ascii_lowercase own)
with_name names slot = names

-- Each member is a slot's, and no two names of headers are equal without case.
abbrev pub are_slots : List (List ℕ) → Members → Bool
are_slots names no_members = true
are_slots names (member key d rest) =
    is_new names (slot_named key) && are_slots (with_name names (slot_named key)) rest

abbrev pub put_slot : Option SlotForm → Data → List (SlotForm × Data) → List (SlotForm × Data)
put_slot None d slots = slots
put_slot (Some slot) d slots = (slot, d) ∷ slots

-- The slots among members, in their order.
abbrev pub slots_of : Members → List (SlotForm × Data)
slots_of no_members = []
slots_of (member key d rest) = put_slot (slot_named key) d (slots_of rest)

abbrev pub slots_from : Data → Option (List (SlotForm × Data))
slots_from d = option_map slots_of (such_that (are_slots []) (as_object d))

abbrev pub slots_in : Data → Result (List (SlotForm × Data)) (List ℕ)
slots_in d = wanted (codes "slots") slots_from d

-- ---- cells

abbrev pub cell_fields : List (List ℕ)
cell_fields = codes "at" ∷ codes "rank" ∷ codes "round" ∷ codes "slots" ∷ []

abbrev pub fields_of_cell : Data → Result CellForm (List ℕ)
fields_of_cell d =
    cut_in d >>= λ cut.
    rank_in d >>= λ rank.
    round_in cut d >>= λ round.
    slots_in d >>= λ slots.
    Ok (record { at = cut; rank = rank; round = round; slots = slots })

-- The cell that a value is.
abbrev pub cell_from : Data → Option CellForm
cell_from d = result_ok (no_other cell_fields d (fields_of_cell d))

abbrev pub are_cells : Items → Bool
are_cells no_items = true
are_cells (item d ds) = is_some (cell_from d) && are_cells ds

abbrev pub put_cell : Option CellForm → List CellForm → List CellForm
put_cell None cells = cells
put_cell (Some cell) cells = cell ∷ cells

-- The cells among items, in their order.
abbrev pub cells_of : Items → List CellForm
cells_of no_items = []
cells_of (item d ds) = put_cell (cell_from d) (cells_of ds)

abbrev pub cells_from : Data → Option (List CellForm)
cells_from d = option_map cells_of (such_that are_cells (as_array d))

-- Whatever is wrong within them, `cells` is the wrong field.
abbrev pub cells_in : Data → Result (List CellForm) (List ℕ)
cells_in d = wanted (codes "cells") cells_from d
