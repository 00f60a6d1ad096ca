-- The sets of slots before the first pass, as they are put into a cell.
use Rattle.std.specs.List.{list_all}
use Rattle.std.specs.Prelude.{ℕ, List, [], ◌∷◌, map, if◌then◌else◌}
use Rattle.hc_cells.specs.Ties.{in_slots}
use Rattle.hc_dfa.specs.Texts.{TextSet}
use Rattle.hc_forms.specs.Forms.{is_value_byte}
use Rattle.hc_plan.specs.Slots.{Slot}
use Rattle.hc_plan.specs.Texts.{any, of_bytes}
use Rattle.hc_scope.specs.declared.claim.Scope.{Scope}
use Rattle.hc_abs_pass.specs.Walks.{is_empty}
use Rattle.hc_abs_start.specs.Starts.{is_path, is_query}

-- One set for each of these slots.
abbrev pub put_each : List Slot → TextSet → (Slot → TextSet) → Slot → TextSet
put_each slots set cell slot = if in_slots slots slot then set else cell slot

-- No variable is set, and headers have values.
abbrev pub named : List (List ℕ) → List (List ℕ) → Slot → TextSet
named variables headers =
    put_each (map Slot.Header headers) (of_bytes (list_all is_value_byte))
    (put_each (map Slot.Env variables) (of_bytes is_empty) (λ slot. of_bytes any))

-- No file is found yet, and END was not met.
abbrev pub emptied : (Slot → TextSet) → Slot → TextSet
emptied = put_each (Slot.Name ∷ Slot.Info ∷ Slot.End ∷ Slot.Location ∷ []) (of_bytes is_empty)

-- The path and the query are those of the target.
abbrev pub of_target : Scope → (Slot → TextSet) → Slot → TextSet
of_target scope cell =
    put_each (Slot.Query ∷ Slot.FirstQuery ∷ []) (of_bytes (is_query scope))
    (put_each (Slot.Origin ∷ Slot.Path ∷ Slot.Text ∷ []) (of_bytes (is_path scope)) cell)
