-- Slots that are one are equal.
use Rattle.std.proofs.Common.{◌≡◌, ◌∙◌, ℕ, ◌==◌, List, [], ◌∷◌, true, refl, sym, ap}
use Rattle.std.proofs.Common.{if◌then◌else◌}
use Rattle.std.proofs.lemmas.Map.Lookups.{exact_bytes, exact_pairs, exact_unsigned}
use Rattle.std.specs.Cmp.{Equal-is}
use Rattle.std.specs.Cmp.Lexicographic.{slice_cmp}
use Rattle.std.specs.Ordering.{nat_cmp}
use Rattle.std.specs.Prelude.{slice_index_or}
use Rattle.hc_cells.specs.Slots.{name_of, rank_of, same_slot}
use Rattle.hc_cells.specs.declared.slot.Slot.{Slot}
use Rattle.hc_cells.specs.declared.slot.Slot.TheVariants.{Origin, Path, Query, Text, Name, Info, End, Method, Request}
use Rattle.hc_cells.specs.declared.slot.Slot.TheVariants.{Env, Header, FirstQuery, Location}

-- The slot of a rank and a name.
slot_of : ℕ × List ℕ → Slot
slot_of of =
    if of.0 == 9 then Env of.1 else (if of.0 == 10 then Header of.1 else slice_index_or
    (Origin ∷ Path ∷ Query ∷ Text ∷ Name ∷ Info ∷ End ∷ Method ∷ Request ∷ Origin ∷ Origin ∷
    FirstQuery ∷ Location ∷ [])
    of.0 Origin)

is_slot_of : (slot : Slot) → slot_of (rank_of slot, name_of slot) ≡ slot
unfolding slot_of
is_slot_of Origin = refl
is_slot_of Path = refl
is_slot_of Query = refl
is_slot_of Text = refl
is_slot_of Name = refl
is_slot_of Info = refl
is_slot_of End = refl
is_slot_of Method = refl
is_slot_of Request = refl
is_slot_of (Env name) = refl
is_slot_of (Header name) = refl
is_slot_of FirstQuery = refl
is_slot_of Location = refl

pub same_slots : (one other : Slot) → same_slot one other ≡ true → one ≡ other
same_slots one other same =
    sym (is_slot_of one)
    ∙ ap slot_of (exact_pairs nat_cmp (slice_cmp nat_cmp) exact_unsigned exact_bytes (rank_of one, name_of one)
    (rank_of other, name_of other) ((Equal-is _).0 same))
    ∙ is_slot_of other
