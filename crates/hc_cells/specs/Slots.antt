-- Slots, and their order.
use Rattle.std.specs.Prelude.{ℕ, List, [], Bool}
use Rattle.std.specs.Cmp.Lexicographic.{slice_cmp}
use Rattle.std.specs.Ordering.{eq_by_cmp, nat_cmp, on, then_cmp}
use Rattle.std.specs.declared.cmp.Ordering.{Ordering}
use Rattle.hc_cells.specs.declared.slot.Slot.{Slot}
use Rattle.hc_cells.specs.declared.slot.Slot.TheVariants.{Origin, Path, Query, Text, Name, Info, End, Method, Request}
use Rattle.hc_cells.specs.declared.slot.Slot.TheVariants.{Env, Header, FirstQuery, Location}

-- The place of a slot's kind among all kinds.
abbrev pub rank_of : Slot → ℕ
rank_of Origin = 0
rank_of Path = 1
rank_of Query = 2
rank_of Text = 3
rank_of Name = 4
rank_of Info = 5
rank_of End = 6
rank_of Method = 7
rank_of Request = 8
rank_of (Env name) = 9
rank_of (Header name) = 10
rank_of FirstQuery = 11
rank_of Location = 12

-- The name of a variable or a header.
abbrev pub name_of : Slot → List ℕ
name_of (Env name) = name
name_of (Header name) = name
name_of other = []

-- Slots in the order of their kinds, and those of one kind in the order of their names.
abbrev pub slot_cmp : Slot → Slot → Ordering
slot_cmp = then_cmp (on rank_of nat_cmp) (on name_of (slice_cmp nat_cmp))

-- They are one slot.
abbrev pub same_slot : Slot → Slot → Bool
same_slot = eq_by_cmp slot_cmp
