-- How segments lead to further rounds of a list of rules.
use Rattle.std.proofs.Common.{◌≡◌, ◌⊎◌, inl, inr, ℕ, zero, suc, ◌≤◌, nat_le, List, [], ◌∷◌}
use Rattle.std.proofs.Common.{Bool, true, false, if◌then◌else◌, refl, sym, subst, arith}
use Rattle.std.proofs.lemmas.Bool.{leb-false, leb-true}
use Rattle.hc_model.specs.declared.outcome.LimitKind.TheVariants.{Rounds}
use Rattle.hc_model.specs.declared.outcome.Outcome.{Outcome}
use Rattle.hc_model.specs.declared.outcome.Outcome.TheVariants.{Limit}
use Rattle.hc_model.specs.declared.rewrite.Rule.{Rule}
unfoldable use Rattle.hc_rw_eval.specs.Lists.{begun_again, behind_attempt, behind_match, from_place}
use Rattle.hc_rw_eval.specs.Attempts.{attempt}
use Rattle.hc_rw_eval.specs.Lists.{is_followed, next_by, skipped_chain, stops_run}
use Rattle.hc_rw_eval.specs.declared.attempt.Attempt.{Attempt}
use Rattle.hc_rw_eval.specs.declared.attempt.Rewritten.{Rewritten}
use Rattle.hc_rw_eval.specs.declared.run.NextRound.{NextRound}
use Rattle.hc_rw_eval.specs.declared.run.Round.{Round}
use Rattle.hc_rw_eval.specs.declared.run.Round.TheVariants.{Again}
use Rattle.hc_rw_expand.specs.Contexts.{Context}
use Rattle.hc_rw_expand.specs.Lookups.{Looks}
use Rattle.hc_steps.specs.Run.{Way, goes_on, is_over}
unfoldable use Rattle.hc_steps.specs.Run.{run}
use Rattle.hc_steps.specs.Step.{Shown, Step, ends, leaves, look, say}
unfoldable use Rattle.hc_steps.specs.Step.{◌>>=◌}
unfoldable use Rattle.hc_include.specs.Ending.{ending}

-- ---- where steps lead

abbrev pub then_on : {E A B : Type 0} → Way E A → (A → Way E B) → Way E B
then_on (goes_on left) next = next left
then_on (is_over end) next = is_over end

abbrev pub ended : {E F A : Type 0} → (E → F) → Way E A → Way F A
ended end (goes_on left) = goes_on left
ended end (is_over own) = is_over (end own)

pub same_left : {E A : Type 0} (one other : A) → ◌≡◌ {A = Way E A} (goes_on one) (goes_on other)
    → one ≡ other
same_left one other same = let e = same in cc

pub nowhere : {E A : Type 0} {P : Type 0} (left : A) (end : E) → goes_on left ≡ is_over end → P
nowhere left end same = absurd (let e = same in cc)

module _ (shown : Shown) where
  abbrev pub way_of : {E A : Type 0} → Step E A → Way E A
  way_of step = (run step shown).way

  pub then_is : {E A B : Type 0} (step : Step E A) (next : A → Step E B)
      → way_of (step >>= next) ≡ then_on (way_of step) (λ left. way_of (next left))
  unfolding run ◌>>=◌
  then_is (leaves left) next = refl
  then_is (ends end) next = refl
  then_is (say event rest) next = then_is rest next
  then_is (look read rest) next = then_is (rest (shown read)) next

  pub ending_is : {E F A : Type 0} (end : E → F) (step : Step E A)
      → way_of (ending end step) ≡ ended end (way_of step)
  unfolding run ending
  ending_is end (leaves left) = refl
  ending_is end (ends own) = refl
  ending_is end (say event rest) = ending_is end rest
  ending_is end (look read rest) = ending_is end (rest (shown read))

  -- ---- a round, and the same one as the round of number 0

  -- Both lead to one place, or a rule whose bound is reached leads on where the number is 0.
  abbrev pub Early : ℕ → Way Outcome Round → Way Outcome Round → Type 0
  Early round way early =
      (early ≡ way) ⊎ ((next : NextRound) × (early ≡ goes_on (Again next)) × (next.bound ≤ round))

  then_early : {A : Type 0} (round : ℕ) (way : Way Outcome A) (late early : A → Way Outcome Round)
      → ((left : A) → Early round (late left) (early left)) → Early round (then_on way late) (then_on way early)
  then_early round (goes_on left) late early each = each left
  then_early round (is_over end) late early each = inl refl

  either_early : (round : ℕ) (is : Bool) (one other first rest : Step Outcome Round)
      → Early round (way_of one) (way_of first) → Early round (way_of other) (way_of rest)
      → Early round (way_of (if is then one else other)) (way_of (if is then first else rest))
  either_early round true one other first rest left right = left
  either_early round false one other first rest left right = right

  again_early : (rule : Rule) (round : ℕ) (left : Rewritten)
      → Early round (way_of (begun_again rule round left)) (way_of (begun_again rule 0 left))
  unfolding begun_again run
  again_early rule round left = by (nat_le rule.flags.rounds round) refl (nat_le rule.flags.rounds 0) refl
    where
      by : (late : Bool) → nat_le rule.flags.rounds round ≡ late → (none : Bool)
          → nat_le rule.flags.rounds 0 ≡ none
          → Early round (way_of (if late then ends (Limit Rounds) else leaves (Again (next_by rule left))))
          (way_of (if none then ends (Limit Rounds) else leaves (Again (next_by rule left))))
      by true is true none = inl refl
      by true is false none = inr (next_by rule left, refl, leb-true rule.flags.rounds round is)
      by false is true none =
          absurd (omega (arith, leb-true rule.flags.rounds 0 none, leb-false rule.flags.rounds round is))
      by false is false none = inl refl

  module _ (context : Context) (looks : Looks) (round : ℕ) where
    pub place_early : (skipped : ℕ) (rules : List Rule) (before : Rewritten)
        → Early round (way_of (from_place context looks round skipped rules before))
        (way_of (from_place context looks 0 skipped rules before))
    unfolding from_place behind_attempt behind_match
    place_early skipped [] before = inl refl
    place_early (suc skipped) (rule ∷ rules) before = place_early skipped rules before
    place_early zero (rule ∷ rules) before =
        let tried = attempt context looks rule (is_followed rules) before in
        let late : Attempt → Step Outcome Round =
        behind_attempt (λ skipped left. from_place context looks round skipped rules left) rule rules round in
        let early : Attempt → Step Outcome Round =
        behind_attempt (λ skipped left. from_place context looks 0 skipped rules left) rule rules 0 in
        subst (λ way. Early round way (way_of (tried >>= early))) (sym (then_is tried late))
        (subst (Early round (then_on (way_of tried) (λ left. way_of (late left)))) (sym (then_is tried early))
        (then_early round (way_of tried) (λ left. way_of (late left)) (λ left. way_of (early left))
        (λ tried. either_early round tried.matched _ _ _ _
        (either_early round (stops_run rule.flags) _ _ _ _ (inl refl)
        (either_early round rule.flags.next _ _ _ _ (again_early rule round tried.left)
        (place_early rule.flags.skip rules tried.left)))
        (place_early (skipped_chain rule rules) rules tried.left))))
