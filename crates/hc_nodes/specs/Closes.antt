-- A text that is no close.
use Rattle.std.specs.Prelude.{◌≡◌, ℕ, List, [], ◌∷◌, ◌++◌}
use Rattle.hc_base.specs.Bytes.{greater, less, slash}

-- The text is not `</`, something and `>`.
abbrev pub IsNoClose : List ℕ → Type 0
IsNoClose text = (inside : List ℕ) → text ≡ less ∷ slash ∷ inside ++ greater ∷ [] → ⊥
