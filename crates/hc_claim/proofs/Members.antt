-- What is tried is of the scope.
use Rattle.hc_claim.proofs.Common.{◌≡◌, ◌∙◌, inl, inr, ℕ, List, [], ◌∷◌, Bool, true, false, Option}
use Rattle.hc_claim.proofs.Common.{Some}
use Rattle.hc_claim.proofs.Common.{None, find, refl, sym, ap, subst}
use Rattle.std.specs.List.{list_all}
use Rattle.std.specs.Prelude.{cond, filter, map}
use Rattle.hc_broken.specs.Breaking.{is_broken}
use Rattle.hc_candidates.specs.Candidates.{AreCandidates, AreCandidatesOf, request_with}
use Rattle.hc_cells.specs.Cells.{Sets, set_at}
use Rattle.hc_cells.specs.declared.slot.Slot.TheVariants as slot
use Rattle.hc_dfa.specs.Automata.{Automaton}
use Rattle.hc_members.specs.Requests.{is_of_scope}
use Rattle.hc_model.specs.declared.request.Request.{Request}
use Rattle.hc_plan.proofs.Common.{and_both, and_left, and_right}
use Rattle.hc_scope.specs.declared.claim.Scope.{Scope}
use Rattle.hc_abs_tree.specs.Trees.{Leaf}
use Rattle.hc_claim.specs.Asking.{Asked}
use Rattle.hc_claim.specs.Deciding.{IsFirst, OrElse}

all_filtered : {A : Type 0} (test : A → Bool) (items : List A) → list_all test (filter test items) ≡ true
all_filtered test [] = refl
all_filtered test (item ∷ items) = by (test item) refl (all_filtered test items)
  where
    by : (is : Bool) → test item ≡ is → list_all test (filter test items) ≡ true
        → list_all test (cond is (item ∷ filter test items) (filter test items)) ≡ true
    by true is all = and_both is all
    by false is all = all

-- What a search finds passes its test, and each test that all pass.
pub found_is : {A : Type 0} (test other : A → Bool) (items : List A) (item : A) → find test items ≡ Some item
    → list_all other items ≡ true → (test item ≡ true) × (other item ≡ true)
found_is test other [] item found all = let e = found in cc
found_is test other (first ∷ items) item found all =
    by (test first) refl found (λ found. found_is test other items item found (and_right (other first) _ all))
  where
    by : (is : Bool) → test first ≡ is → cond is (Some first) (find test items) ≡ Some item
        → (find test items ≡ Some item → (test item ≡ true) × (other item ≡ true))
        → (test item ≡ true) × (other item ≡ true)
    by true is found later =
        let same : first ≡ item = cc in
        (subst (λ own. test own ≡ true) same is, subst (λ own. other own ≡ true) same (and_left _ _ all))
    by false is found later = later found

pub candidates_within : (scope : Scope) (headers : List (List ℕ)) (sets : Sets) (requests : List Request)
    → AreCandidates scope headers sets requests → list_all (is_of_scope scope) requests ≡ true
candidates_within scope headers sets requests are = by (set_at sets slot.Origin) are
  where
    by : (origins : Option Automaton) → AreCandidatesOf scope headers sets origins requests
        → list_all (is_of_scope scope) requests ≡ true
    by None none = ap (list_all (is_of_scope scope)) none
    by (Some origins) (inl picked) =
        ap (list_all (is_of_scope scope)) picked.2.2
        ∙ all_filtered (is_of_scope scope) (map (request_with scope picked.0) picked.2.0)
    by (Some origins) (inr none) = ap (list_all (is_of_scope scope)) none.1

module _ (asked : Asked) where
  abbrev breaking : Request → Bool
  breaking = is_broken asked.world asked.config asked.claim

  -- A request of the scope that breaks the claim.
  abbrev Shows : Option Request → Type 0
  Shows found = (request : Request) → found ≡ Some request
      → (breaking request ≡ true) × (is_of_scope asked.scope request ≡ true)

  pub first_shows : (headers : List (List ℕ)) (leaves : List Leaf) (found : Option Request)
      → IsFirst asked headers leaves found → Shows found
  first_shows headers [] found none request is = let e = sym none ∙ is in cc
  first_shows headers (leaf ∷ leaves) found tried request is =
      by (find breaking tried.0) refl tried.2 (λ later. first_shows headers leaves found later request is)
    where
      by : (own : Option Request) → find breaking tried.0 ≡ own → OrElse (IsFirst asked headers leaves) own found
          → (IsFirst asked headers leaves found → (breaking request ≡ true) × (is_of_scope asked.scope request ≡ true))
          → (breaking request ≡ true) × (is_of_scope asked.scope request ≡ true)
      by (Some first) same later rest =
          found_is breaking (is_of_scope asked.scope) tried.0 request (same ∙ sym later ∙ is)
          (candidates_within asked.scope headers tried.1.0 tried.0 tried.1.2)
      by None same later rest = rest later
