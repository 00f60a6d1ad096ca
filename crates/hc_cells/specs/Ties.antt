-- Slots that hold one value.
use Rattle.std.specs.Prelude.{List, [], ◌∷◌, ◌++◌, Bool, false, ◌||◌, if◌then◌else◌}
use Rattle.std.specs.List.{list_any}
use Rattle.hc_cells.specs.Slots.{same_slot}
use Rattle.hc_cells.specs.declared.slot.Slot.{Slot}
use Rattle.hc_cells.specs.declared.slot.Slot.TheVariants.{Origin, Path, Text, Name, Query, FirstQuery}
use Rattle.hc_cells.specs.declared.ties.Ties.{Ties}

-- Origin, path, text and name are one chain: what follows the text and the path in it, and what comes before them.
-- The query and the first query are a pair.
abbrev pub behind_text : Ties → List Slot
behind_text ties = if ties.text_name then Name ∷ [] else []

abbrev pub behind_path : Ties → List Slot
behind_path ties = if ties.text_path then Text ∷ behind_text ties else []

abbrev pub before_path : Ties → List Slot
before_path ties = if ties.origin_path then Origin ∷ [] else []

abbrev pub before_text : Ties → List Slot
before_text ties = if ties.text_path then Path ∷ before_path ties else []

-- The slots that hold one value with it.
abbrev pub tied_to : Ties → Slot → List Slot
tied_to ties Origin = if ties.origin_path then Path ∷ behind_path ties else []
tied_to ties Path = before_path ties ++ behind_path ties
tied_to ties Text = before_text ties ++ behind_text ties
tied_to ties Name = if ties.text_name then Text ∷ before_text ties else []
tied_to ties Query = if ties.query_first then FirstQuery ∷ [] else []
tied_to ties FirstQuery = if ties.query_first then Query ∷ [] else []
tied_to ties other = []

abbrev pub in_slots : List Slot → Slot → Bool
in_slots slots slot = list_any (λ other. same_slot other slot) slots

abbrev pub tied : Ties → Slot → Slot → Bool
tied ties one other = in_slots (tied_to ties one) other

-- A slot, and those tied to it.
abbrev pub touched : Ties → Slot → Slot → Bool
touched ties slot at = same_slot slot at || tied ties slot at

-- A slot that is stored is tied to no other.
abbrev pub untied : Slot → Ties → Ties
untied Origin ties = record ties { origin_path = false }
untied Path ties = record ties { origin_path = false; text_path = false }
untied Text ties = record ties { text_path = false; text_name = false }
untied Name ties = record ties { text_name = false }
untied Query ties = record ties { query_first = false }
untied FirstQuery ties = record ties { query_first = false }
untied other ties = ties
