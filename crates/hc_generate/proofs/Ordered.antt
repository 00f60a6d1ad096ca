-- A run that takes steps in order.
use Rattle.std.proofs.Common.{◌≡◌, ◌∙◌, ◌+◌, ◌-◌, ◌<◌, ◌≤◌, ℕ, suc, List, ◌∷◌, ap}
use Rattle.std.proofs.Common.{sym, subst, refl, arith}
use Rattle.hc_session.specs.Session.{Work}
use Rattle.hc_generate.proofs.Going.{goes_none, goes_on}
use Rattle.hc_generate.specs.Draws.{Drawing}
use Rattle.hc_generate.specs.Run.{Takes}
use Rattle.hc_generate.specs.Script.{in_order}
use Rattle.hc_generate.specs.Summary.{total}
use Rattle.hc_generate.specs.declared.run.Run.{Run}
use Rattle.hc_generate.specs.declared.step.Step.{Step}

-- Of so many steps, those below `number` were taken.
pub record IsOn (step : ℕ → Drawing Step) (all : ℕ) (old now : Run) (first x number : ℕ) (k n : Work) : Type
    0 where
  pub goes : (behind : ℕ → List Step)
      → Takes old now (in_order step 0 all behind first) (in_order step number (all - number) behind x) k n
  pub few : total now.tally ≤ total old.tally + number

in_order_more : (step : ℕ → Drawing Step) (number count : ℕ) (behind : ℕ → List Step) (x : ℕ)
    → in_order step number (suc count) behind x ≡ (step number x).0 ∷ in_order step (number + 1) count behind
    (step number x).1
unfolding in_order
in_order_more step number count behind x = refl

in_order_end : (step : ℕ → Drawing Step) (number : ℕ) (behind : ℕ → List Step) (x : ℕ)
    → in_order step number 0 behind x ≡ behind x
unfolding in_order
in_order_end step number behind x = refl

module _ (step : ℕ → Drawing Step) (all : ℕ) where
  pub on_start : (run : Run) (x : ℕ) (n : Work) → IsOn step all run run x x 0 n n
  on_start run x n =
      let whole : all - 0 ≡ all = omega arith in
      record { goes = λ behind. rw whole (goes_none run _ n); few = omega arith }

  pub on_more : (old mid new : Run) (first x y number : ℕ) (k m n : Work) (made : Step)
      → IsOn step all old mid first x number k m → number < all → (made, y) ≡ step number x
      → ((left : List Step) → Takes mid new (made ∷ left) left m n) → total new.tally ≤ total mid.tally + 1
      → IsOn step all old new first y (number + 1) k n
  on_more old mid new first x y number k m n made on below drawn takes few =
      let count : all - number ≡ suc (all - (number + 1)) = omega arith in
      let next : (behind : ℕ → List Step) → in_order step number (all - number) behind x
      ≡ made ∷ in_order step (number + 1) (all - (number + 1)) behind y =
      λ behind. ap (λ c. in_order step number c behind x) count ∙ in_order_more step number _ behind x
      ∙ ap (λ d. d.0 ∷ in_order step (number + 1) (all - (number + 1)) behind d.1) (sym drawn) in
      record {
        goes = λ behind. goes_on old mid new _ _ _ k m n
            (subst (λ left. Takes old mid (in_order step 0 all behind first) left k m) (next behind) (on.goes behind))
            (takes _);
        few = omega (arith, few, on.few);
      }

  pub on_end : (old new : Run) (first x number : ℕ) (k n : Work) → IsOn step all old new first x number k n
      → all ≤ number
      → (behind : ℕ → List Step) → Takes old new (in_order step 0 all behind first) (behind x) k n
  on_end old new first x number k n on past behind =
      let none : all - number ≡ 0 = omega arith in
      subst (λ left. Takes old new (in_order step 0 all behind first) left k n)
      (ap (λ c. in_order step number c behind x) none ∙ in_order_end step number behind x) (on.goes behind)
