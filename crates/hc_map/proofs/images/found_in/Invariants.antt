use Rattle.std.proofs.Common.{◌≡◌, ℕ, List, length, drop, Option}
use Rattle.std.specs.List.{slice_split}
use Rattle.std.specs.Option.{option_or}
use Rattle.hc_base.specs.Lines.{is_lf}
use Rattle.hc_dfa.specs.Automata.{accepts}
use Rattle.hc_map.specs.Gathered.{AreGathered}
use Rattle.hc_map.specs.Maps.{value_in}
use Rattle.hc_map.proofs.Rows.{value_among}
use Rattle.hc_map.proofs.images.found_in.Given as goal

-- the lines so far give some values, and those that are left the others
abbrev pub invariant-loop-line : goal.invariant-loop-line
invariant-loop-line l =
    (before : List ℕ → Option (List ℕ))
    × AreGathered before (accepts l.set) l.found.keys.keys l.found.values.items
    × ((key : List ℕ) → option_or (before key)
    (value_among key (drop (length l.yielded) (slice_split is_lf l.text))) ≡ value_in key l.text)
