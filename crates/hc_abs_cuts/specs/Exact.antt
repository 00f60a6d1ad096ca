-- The file names that lead to an end with no path information, as code has them.
use Rattle.std.specs.Prelude.{ℕ, List, ◌&&◌}
use Rattle.hc_dfa.specs.Automata.{Automaton}
use Rattle.hc_dfa.specs.Built.{Accepts}
use Rattle.hc_dfa.specs.Fronts.{behind_text}
use Rattle.hc_dfa.specs.Texts.{TextSet}
use Rattle.hc_pat_lang.specs.Sets.{AcceptsOnly}
use Rattle.hc_rw_sets.specs.Made.{MadeOf}
use Rattle.std.specs.Prelude.{true}
use Rattle.hc_abs_pass.specs.Walking.{rests_of}
use Rattle.hc_abs_pass.specs.Walks.{behind_component, component, is_empty}
use Rattle.hc_abs_pass.specs.declared.walk_ends.Behind.{Behind}
use Rattle.hc_abs_pass.specs.declared.walk_ends.End.{End}

-- The texts without a slash.
abbrev pub ArePlain : Automaton → Type 0
ArePlain set = Accepts set (λ text. is_empty (behind_component text))

abbrev pub exact_rests : Behind → TextSet
exact_rests behind rest = rests_of behind rest && is_empty (behind_component rest)

abbrev pub exact_of : End → TextSet
exact_of end = behind_text end.front (exact_rests end.behind)
