-- Lists of steps that grow.
use Rattle.hc_dfa.proofs.Common.{◌≡◌, ℕ, ◌⊎◌, ◌↔◌, List, [], ◌∷◌, ◌++◌, ◌∙◌, sym}
use Rattle.hc_dfa.proofs.Common.{ap, inl, inr, Option, Some}
use Rattle.hc_dfa.proofs.Common.{None, Bytes, Step, Reads, LeadsBy, IsOneStep, Grows, HasStep, AddsStep}
use Rattle.std.proofs.lemmas.List.Elements.{Contains-append_left, Contains-push, Contains-push_cases}

-- The step reads one more byte.
pub grows_with : (step : Step) (bytes more : Bytes) (byte to : ℕ) → step.bytes ≡ Some bytes → step.to ≡ to
    → ((b : ℕ) → Reads (Some more) (Some b) ↔ (Reads (Some bytes) (Some b) ⊎ (b ≡ byte)))
    → Grows step (Some byte) to (record { bytes = Some more; to = to })
grows_with step bytes more byte to is at grown None j = (
  (λ leads. absurd leads.0),
  (λ any. elim any [ inl old ↦ absurd (rw is at old.0) | inr new ↦ absurd (let e = new.0 in cc) ]),
)
grows_with step bytes more byte to is at grown (Some b) j = (
  (λ leads. elim ((grown b).0 leads.0)
      [ inl old ↦ inl (rw is old, at ∙ leads.1) | inr e ↦ inr (ap Some e, sym leads.1) ]),
  (λ any. elim any [
    | inl old ↦ ((grown b).1 (inl (rw is at old.0)), sym at ∙ old.1)
    | inr new ↦ ((grown b).1 (inr (let e = new.0 in cc)), sym new.1)
  ]),
)

has_push : (steps : List Step) (step : Step) (byte : Option ℕ) (to : ℕ)
    → HasStep (steps ++ step ∷ []) byte to ↔ (HasStep steps byte to ⊎ LeadsBy step byte to)
has_push steps step byte to = (
  (λ has. elim (Contains-push_cases steps step has.0 has.1)
      [ inl old ↦ inl (has.0, old, has.2) | inr e ↦ inr (rw e has.2) ]),
  (λ any. elim any [
    | inl old ↦ (old.0, Contains-append_left steps (step ∷ []) old.0 old.1, old.2)
    | inr leads ↦ (step, Contains-push steps step, leads)
  ]),
)

pub adds_one : (steps : List Step) (step : Step) (byte : Option ℕ) (to : ℕ) → IsOneStep step byte to
    → AddsStep steps (steps ++ step ∷ []) byte to
adds_one steps step byte to is b j = (
  (λ has. elim ((has_push steps step b j).0 has) [ inl old ↦ inl old | inr leads ↦ inr ((is b j).0 leads) ]),
  (λ any. (has_push steps step b j).1 (elim any [ inl old ↦ inl old | inr own ↦ inr ((is b j).1 own) ])),
)

pub adds_to_last : (steps : List Step) (last more : Step) (byte : Option ℕ) (to : ℕ) → Grows last byte to more
    → AddsStep (steps ++ last ∷ []) (steps ++ more ∷ []) byte to
adds_to_last steps last more byte to grows b j = (
  (λ has. elim ((has_push steps more b j).0 has) [
    | inl old ↦ inl ((has_push steps last b j).1 (inl old))
    | inr leads ↦ elim ((grows b j).0 leads)
        [ inl before ↦ inl ((has_push steps last b j).1 (inr before)) | inr own ↦ inr own ]
  ]),
  (λ any. (has_push steps more b j).1 (elim any [
    | inl has ↦ elim ((has_push steps last b j).0 has)
        [ inl old ↦ inl old | inr leads ↦ inr ((grows b j).1 (inl leads)) ]
    | inr own ↦ inr ((grows b j).1 (inr own))
  ])),
)
