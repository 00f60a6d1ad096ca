-- The addresses of a network as sets of texts.
use Rattle.std.specs.Prelude.{ℕ, zero, suc, ◌||◌}
use Rattle.hc_dfa.specs.Texts.{TextSet}
use Rattle.hc_net_sets.specs.Rows.{gapped_texts, whole_texts}
use Rattle.hc_net_sets.specs.declared.sought.Family.TheVariants.{Four, Six}
use Rattle.hc_net_sets.specs.declared.sought.Sought.{Sought}

abbrev pub four : ℕ → ℕ → Sought
four own mask = record { family = Four; own = own; mask = mask; behind = 0 }

abbrev pub six : ℕ → ℕ → ℕ → Sought
six own mask behind = record { family = Six; own = own; mask = mask; behind = behind }

-- IPv6 addresses of eight groups, and those with `::` and fewer than so many groups behind it.
abbrev pub six_texts : ℕ → ℕ → ℕ → TextSet
six_texts own mask zero text = whole_texts (six own mask 0) text
six_texts own mask (suc behind) text = six_texts own mask behind text || gapped_texts (six own mask behind) text
