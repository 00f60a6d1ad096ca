-- The sets of slots before the first pass.
use Rattle.std.proofs.Common.{◌≡◌, ◌∙◌, ℕ, List, [], ◌∷◌, map, Bool, true, false, ◌&&◌}
use Rattle.std.proofs.Common.{◌||◌, refl, if◌then◌else◌}
use Rattle.std.proofs.Math.Path.{fun_ext}
use Rattle.std.proofs.lemmas.Map.Text.{is_eq-slice_cmp}
use Rattle.std.specs.List.{list_all}
use Rattle.std.specs.Prelude.{nat_lt}
use Rattle.std.specs.Str.{bytes_eq}
use Rattle.hc_cells.proofs.Places.{slots_equal}
use Rattle.hc_cells.specs.Ties.{in_slots}
use Rattle.hc_dfa.specs.Automata.{Automaton, accepts}
use Rattle.hc_dfa.specs.Built.{Accepts}
use Rattle.hc_dfa.specs.Texts.{TextSet}
use Rattle.hc_forms.specs.Forms.{is_value_byte}
use Rattle.hc_members.specs.Requests.{is_listed}
use Rattle.hc_plan.proofs.Made.{is_text}
use Rattle.hc_plan.specs.Hands.{set_in}
use Rattle.hc_plan.specs.Slots.{Slot, put, same_slot}
use Rattle.hc_plan.specs.Texts.{any, of_bytes}
use Rattle.hc_scope.specs.declared.claim.Scope.{Scope}
use Rattle.hc_abs_pass.specs.Walks.{is_empty}
use Rattle.hc_abs_restart.specs.Restarted.{is_among}
use Rattle.hc_abs_start.specs.Starting.{emptied, named, of_target, put_each}
use Rattle.hc_abs_start.specs.Starts.{first_cell, where_looked}

pub same_set : (made : Automaton) (set : TextSet) → Accepts made set → set_in made ≡ of_bytes set
same_set made set is = fun_ext (λ text. by text (list_all (λ b. nat_lt b 256) text) refl)
  where
    by : (text : List ℕ) (bytes : Bool) → list_all (λ b. nat_lt b 256) text ≡ bytes
        → (bytes && accepts made text) ≡ (bytes && set text)
    by text true bytes = is text (is_text text bytes)
    by text false bytes = refl

-- ---- slots

-- One more slot.
pub each_more : (slot : Slot) (slots : List Slot) (set : TextSet) (cell : Slot → TextSet)
    → put_each slots set (put slot set cell) ≡ put_each (slot ∷ slots) set cell
each_more slot slots set cell = fun_ext (λ at. by (cell at) (same_slot slot at) (in_slots slots at))
  where
    by : (own : TextSet) (is were : Bool)
        → (if were then set else (if is then set else own)) ≡ (if (is || were) then set else own)
    by own true true = refl
    by own true false = refl
    by own false were = refl

-- ---- names

none_is : (at : List ℕ → Slot) (slot : Slot) → ((name : List ℕ) → same_slot (at name) slot ≡ false)
    → (names : List (List ℕ)) → in_slots (map at names) slot ≡ false
none_is at slot apart [] = refl
none_is at slot apart (name ∷ names) = rw (apart name) (none_is at slot apart names)

some_is : (at : List ℕ → Slot) (own : List ℕ)
    → ((name : List ℕ) → same_slot (at own) (at name) ≡ bytes_eq own name)
    → (names : List (List ℕ)) → in_slots (map at names) (at own) ≡ is_among names own
some_is at own same [] = refl
some_is at own same (name ∷ names) =
    λ i. (slots_equal.symm (at name) (at own) ∙ same name) i || some_is at own same names i

looked : (is : Bool) (set : TextSet) → (if is then of_bytes set else of_bytes any) ≡ of_bytes (where_looked is set)
looked true set = refl
looked false set = refl

-- ---- all slots

module _ (scope : Scope) (variables headers : List (List ℕ)) where
  abbrev all_put : Slot → TextSet
  all_put =
      put_each (Slot.Method ∷ []) (of_bytes (is_listed scope.methods))
      (of_target scope (emptied (named variables headers)))

  abbrev put_by : Bool → Bool → TextSet
  put_by header variable =
      if header then of_bytes (list_all is_value_byte) else if variable then of_bytes is_empty else of_bytes any

  each_set : (slot : Slot) → all_put slot ≡ first_cell scope variables headers slot
  each_set Slot.Request =
      λ i. put_by (none_is Slot.Header Slot.Request (λ name. refl) headers i)
      (none_is Slot.Env Slot.Request (λ name. refl) variables i)
  each_set (Slot.Env name) =
      (λ i. put_by (none_is Slot.Header (Slot.Env name) (λ other. refl) headers i)
      (some_is Slot.Env name (is_eq-slice_cmp name) variables i))
      ∙ looked (is_among variables name) is_empty
  each_set (Slot.Header name) =
      (λ i. put_by (some_is Slot.Header name (is_eq-slice_cmp name) headers i)
      (none_is Slot.Env (Slot.Header name) (λ other. refl) variables i))
      ∙ looked (is_among headers name) (list_all is_value_byte)
  each_set other = refl

  pub first_put : all_put ≡ first_cell scope variables headers
  first_put = fun_ext each_set
