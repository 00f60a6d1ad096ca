-- How the entries of the code stand for what is kept.
use Rattle.std.specs.Prelude.{ℕ, List, ◌++◌, map, take, drop, if◌then◌else◌, Option, Some, None}
use Rattle.hc_cache.specs.Entries.{Entry, is_current}
use Rattle.hc_cache.specs.declared.cache.Kept.{Kept}
use Rattle.hc_world.specs.Edits.{Edited}

abbrev pub entry_of : {K V : Type 0} → K × Kept V → Entry K V
entry_of e = record { key = e.0; reads = e.1.reads; at = e.1.at; value = e.1.value }

abbrev pub value_kept : {V : Type 0} → Edited → Kept V → Option V
value_kept world kept = if is_current world kept.reads kept.at then Some kept.value else None

-- From the oldest on, and then those that stand before it.
abbrev pub in_order : {K V : Type 0} → ℕ → List (K × Kept V) → List (Entry K V)
in_order oldest ring = map entry_of (drop oldest ring ++ take oldest ring)
