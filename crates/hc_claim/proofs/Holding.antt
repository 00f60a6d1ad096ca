-- What an answer says of the requests of a scope.
use Rattle.hc_claim.proofs.Common.{inl, inr, ℕ, List, [], ◌∷◌, Option, Some, None}
use Rattle.hc_claim.proofs.Common.{refl, sym, subst}
use Rattle.hc_absolute.specs.Absolute.{AreAbsolute}
use Rattle.hc_model.specs.declared.event.Decision.{Decision}
use Rattle.hc_model.specs.declared.request.Request.{Request}
use Rattle.hc_named.specs.declared.names.Names.{Names}
use Rattle.hc_steps.specs.Shown.{shown_by}
use Rattle.hc_abs_pass.specs.Walks.{IsListed}
use Rattle.hc_abs_tree.specs.Trees.{AreLeaves, Leaf}
use Rattle.hc_claim.specs.Asking.{Asked, AreUnder, known_before, soil_of}
use Rattle.hc_claim.specs.Bad.{AreBad}
use Rattle.hc_claim.specs.Deciding.{IsAnswered, IsFirst, IsShown}
use Rattle.hc_claim.specs.Holding.{AnswersHold, Holds}
use Rattle.hc_claim.specs.declared.decided.Decided.{Decided}
use Rattle.hc_claim.proofs.Covering.{proved_holds}
use Rattle.hc_claim.proofs.Members.{first_shows}

module _ (asked : Asked) where
  -- The request that a refutation has.
  shown_holds : (headers : List (List ℕ)) (leaves : List Leaf) (branch : List Decision) (found : Option Request)
      → IsFirst asked headers leaves found → (decided : Decided) → IsShown asked branch found decided
      → Holds asked decided
  shown_holds headers leaves branch None first decided is = subst (Holds asked) (sym is) tt
  shown_holds headers leaves branch (Some request) first decided is =
      let own = first_shows asked headers leaves (Some request) first request refl in
      subst (Holds asked) (sym is.2) (own.1, own.0, is.1)

  answer_holds : AreAbsolute asked.config → (levels : ℕ) → IsListed levels (shown_by asked.world) → (names : Names)
      → (leaves : List Leaf) → AreUnder AreLeaves (soil_of asked levels names) (known_before asked names) leaves
      → (bad : List Leaf) → AreBad asked.claim leaves bad → (decided : Decided)
      → IsAnswered asked names.headers bad decided → Holds asked decided
  answer_holds absolute levels listed names leaves tree [] none decided is =
      subst (Holds asked) (sym is) (proved_holds asked absolute levels listed names leaves tree none)
  answer_holds absolute levels listed names leaves tree (leaf ∷ bad) are decided is =
      shown_holds names.headers (leaf ∷ bad) leaf.decisions is.0 is.1 decided is.2

pub answers_hold : AnswersHold
answers_hold asked limit levels spent decided absolute listed (inl many) = subst (Holds asked) (sym many.is) tt
answers_hold asked limit levels spent decided absolute listed (inr known) =
    answer_holds asked absolute levels listed known.names known.leaves known.all known.bad known.are_bad decided
    known.answer
