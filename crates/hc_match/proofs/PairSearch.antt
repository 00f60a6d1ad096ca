-- A search goes on and back.
use Rattle.hc_match.proofs.Common.{◌≡◌, ℕ, ◌⊎◌, inl, inr, List, [], ◌∷◌, ◌++◌, Some, None}
use Rattle.hc_match.proofs.Common.{slice_get, sym, ap, ◌∙◌, fold, Way, stop, first_of, append-nil, Kept, Meaning}
use Rattle.hc_match.proofs.Common.{kept_past, AllFail, Fails, IsPair, Leads, Reached, move_ways, other_ways, past}
use Rattle.hc_match.proofs.Common.{Passed, Step}
use Rattle.std.specs.Prelude.{IsTrue}
use Rattle.hc_match.specs.Failures.{has_failed}
use Rattle.hc_match.specs.declared.failures.Failures.{Failures}
use Rattle.hc_match.specs.declared.moves.Move.{Move}

module _ (steps : List Step) (meaning : Meaning) where
  pub reached_push : (From : ℕ → ℕ → Type 0) (passed : List Passed) (one : Passed) (step at : ℕ)
      → Reached steps meaning From passed one.step one.at → Leads steps meaning one step at
      → Reached steps meaning From (passed ++ one ∷ []) step at
  reached_push From [] one step at reached leads = (reached, leads)
  reached_push From (first ∷ more) one step at reached leads =
      reached_push (λ step at. From first.step first.at × Leads steps meaning first step at) more one step at reached
      leads

  pub reached_pop : (From : ℕ → ℕ → Type 0) (passed : List Passed) (one : Passed) (step at : ℕ)
      → Reached steps meaning From (passed ++ one ∷ []) step at
      → Reached steps meaning From passed one.step one.at × Leads steps meaning one step at
  reached_pop From [] one step at reached = reached
  reached_pop From (first ∷ more) one step at reached =
      reached_pop (λ step at. From first.step first.at × Leads steps meaning first step at) more one step at reached

  -- The pair fails where nothing else is to be tried there.
  pub fails_back : (one : Passed) (step at : ℕ) → Leads steps meaning one step at → Fails meaning step at
      → one.other ≡ None → Fails meaning one.step one.at
  fails_back one step at leads fails is kept =
      let behind = past steps kept one in
      leads kept ∙ ap (λ l. l ++ other_ways meaning one.other one.at behind) (fails behind)
      ∙ ap (λ other. other_ways meaning other one.at behind) is

  -- Else the search goes on with that.
  pub leads_other : (one : Passed) (step at other : ℕ) → Leads steps meaning one step at → Fails meaning step at
      → one.other ≡ Some other
      → Leads steps meaning (record { step = one.step; at = one.at; other = None }) other one.at
  leads_other one step at other leads fails is kept =
      let behind = past steps kept one in
      leads kept ∙ ap (λ l. l ++ other_ways meaning one.other one.at behind) (fails behind)
      ∙ ap (λ other. other_ways meaning other one.at behind) is
      ∙ sym (append-nil (meaning other one.at behind))

  pub failed_more : (old new : Failures) (step at : ℕ) → AllFail meaning old → Fails meaning step at
      → ((other there : ℕ) → IsTrue (has_failed new other there) → IsTrue (has_failed old other there)
      ⊎ ((other ≡ step) × (there ≡ at))) → AllFail meaning new
  failed_more old new step at all fails added other there is =
      elim (added other there is) [
        | inl before ↦ all other there before
        | inr same ↦ λ kept. ap (λ other. meaning other there kept) same.0
            ∙ ap (λ there. meaning step there kept) same.1 ∙ fails kept
      ]

  pub moved : (move : Move) (step at : ℕ) (kept : Kept) (same : Move)
      → meaning step at kept ≡ move_ways meaning move at kept (kept_past (slice_get steps step) at kept)
      → move ≡ same
      → meaning step at kept ≡ move_ways meaning same at kept (kept_past (slice_get steps step) at kept)
  moved move step at kept same is e =
      is ∙ ap (λ move. move_ways meaning move at kept (kept_past (slice_get steps step) at kept)) e

  -- Where the pair has a way with what is kept there, the first pair has that way first.
  first_way : (From : ℕ → ℕ → Type 0) (kept : Kept) (goal : Type 0) (way : Way Kept)
      → ((step at : ℕ) (others : List (Way Kept)) → From step at → meaning step at kept ≡ way ∷ others
      → goal)
      → (passed : List Passed) (step at : ℕ) (others : List (Way Kept))
      → Reached steps meaning From passed step at → meaning step at (fold (past steps) kept passed)
      ≡ way ∷ others → goal
  first_way From kept goal way from [] step at others reached is = from step at others reached is
  first_way From kept goal way from (first ∷ more) step at others reached is =
      first_way (λ step at. From first.step first.at × Leads steps meaning first step at) (past steps kept first) goal
      way
      (λ step at others leads is.
      from first.step first.at (others ++ other_ways meaning first.other first.at (past steps kept first)) leads.0
      (leads.1 kept ∙ ap (λ l. l ++ other_ways meaning first.other first.at (past steps kept first)) is))
      more step at others reached is

  pub found_way : (start from : ℕ) (kept : Kept) (passed : List Passed) (step at : ℕ)
      → Reached steps meaning (IsPair start from) passed step at
      → ((kept : Kept) → meaning step at kept ≡ stop at kept)
      → first_of (meaning start from kept) ≡ Some (record { end = at; held = fold (past steps) kept passed })
  found_way start from kept passed step at reached ends =
      first_way (IsPair start from) kept _ (record { end = at; held = fold (past steps) kept passed })
      (λ step there others here is.
      ap (λ start. first_of (meaning start from kept)) (sym here.0) ∙ ap (λ from. first_of (meaning step from kept))
      (sym here.1) ∙ ap first_of is)
      passed step at [] reached (ends (fold (past steps) kept passed))
