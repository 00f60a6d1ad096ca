-- How many conditions the first group of a rule's conditions has.
use Rattle.std.specs.Prelude.{ℕ, ◌+◌, List, [], ◌∷◌, if◌then◌else◌}
use Rattle.hc_model.specs.declared.rewrite.Cond.{Cond}

abbrev pub group_length : List Cond → ℕ
group_length [] = 0
group_length (cond ∷ conds) = if cond.or_next then group_length conds + 1 else 1
