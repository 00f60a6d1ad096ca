-- The names of a condition's flags, one after another.
use Rattle.std.proofs.Common.{◌≡◌, ℕ, ◌+◌, ◌<◌, ◌≤◌, List, ◌∷◌, length, get_or, drop, Ok}
use Rattle.std.proofs.Common.{sym, ap, ◌∙◌}
use Rattle.std.proofs.lemmas.List.{drop_all, drop_more}
use Rattle.hc_rw_parse.specs.CondFlags.{with_name, with_names}
use Rattle.hc_rw_parse.specs.declared.cond_flags.CondFlags.{CondFlags}

pub names_step : (flags : CondFlags) (names : List (List ℕ)) (k : ℕ) (name : List ℕ)
    → (k < length names) × (name ≡ get_or names k name)
    → with_names (Ok flags) (drop k names) ≡ with_names (with_name flags name) (drop (k + 1) names)
names_step flags names k name h =
    ap (with_names (Ok flags)) (drop_more names k name h.0 ∙ ap (λ s. s ∷ drop (k + 1) names) (sym h.1))

pub names_end : (flags : CondFlags) (names : List (List ℕ)) (k : ℕ) → length names ≤ k
    → with_names (Ok flags) (drop k names) ≡ Ok flags
names_end flags names k h = ap (with_names (Ok flags)) (drop_all k names h)
