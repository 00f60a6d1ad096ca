-- What is not false: where a choice can't be told, the proof goes on with each.
use Rattle.std.proofs.Common.{◌⊎◌, inl, inr}

abbrev pub Weakly : Type 0 → Type 0
Weakly P = (P → ⊥) → ⊥

pub weakly : {P : Type 0} → P → Weakly P
weakly is none = none is

pub and_so : {P Q : Type 0} → Weakly P → (P → Weakly Q) → Weakly Q
and_so is next none = is (λ own. next own none)

pub either_way : (P : Type 0) → Weakly (P ⊎ (P → ⊥))
either_way P none = none (inr (λ is. none (inl is)))
