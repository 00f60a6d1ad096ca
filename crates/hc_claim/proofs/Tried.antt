-- Which candidates are tried, one after another.
use Rattle.hc_claim.proofs.Common.{◌≡◌, ◌∙◌, inl, inr, ℕ, List, [], ◌∷◌, Bool, true, false, Option}
use Rattle.hc_claim.proofs.Common.{Some}
use Rattle.hc_claim.proofs.Common.{None, refl, sym, ap, subst, arith}
use Rattle.std.proofs.Common.{◌+◌, ◌<◌, ◌≤◌, drop, length, slice_index_or}
use Rattle.std.proofs.lemmas.List.{drop_more, length-map}
use Rattle.std.specs.Prelude.{cond, filter, map}
use Rattle.hc_addr.specs.declared.addr.Addr.{Addr}
use Rattle.hc_base.specs.Paths.{begins_with_slash}
use Rattle.hc_broken.specs.Breaking.{is_broken}
use Rattle.hc_candidates.specs.Candidates.{AreCandidates, AreCandidatesOf, request_with}
use Rattle.hc_candidates.specs.declared.picking.TheConstants.{MOST_CANDIDATES}
use Rattle.hc_cells.specs.Cells.{Sets, set_at}
use Rattle.hc_cells.specs.declared.slot.Slot.TheVariants as slot
use Rattle.hc_dfa.specs.Automata.{Automaton}
unfoldable use Rattle.hc_members.specs.Requests.{is_of_scope}
use Rattle.hc_model.specs.declared.request.Caller.{Caller}
use Rattle.hc_model.specs.declared.request.Request.{Request}
use Rattle.hc_plan.proofs.Common.{and_left, and_right}
use Rattle.hc_plan.specs.Coded.{AllFit}
use Rattle.hc_scope.specs.declared.claim.Scope.{Scope}
use Rattle.hc_abs_leaves.specs.Fitting.{LeafFits}
use Rattle.hc_abs_leaves.specs.declared.leaf.Leaf.{Leaf as LeafIn}
use Rattle.hc_abs_tree.specs.Trees.{Leaf}
use Rattle.hc_claim.specs.Asking.{Asked}
use Rattle.hc_claim.specs.Deciding.{IsAnswered, IsFirst, IsShown, OrElse}
use Rattle.hc_claim.specs.Trying.{IsAnsweredIn, IsFirstIn, Spends, Tries, broken_of}
use Rattle.hc_claim.specs.declared.decided.Decided.{Decided}

-- ---- how many there are

few_filtered : {A : Type 0} (test : A → Bool) (items : List A) → length (filter test items) ≤ length items
few_filtered test [] = omega arith
few_filtered test (item ∷ items) = by (test item) (few_filtered test items)
  where
    by : (is : Bool) → length (filter test items) ≤ length items
        → length (cond is (item ∷ filter test items) (filter test items)) ≤ length (item ∷ items)
    by true rest = omega (arith, rest)
    by false rest = omega (arith, rest)

pub few_candidates : (scope : Scope) (headers : List (List ℕ)) (sets : Sets) (requests : List Request)
    → AreCandidates scope headers sets requests → length requests ≤ MOST_CANDIDATES
few_candidates scope headers sets requests are = by (set_at sets slot.Origin) are
  where
    by : (origins : Option Automaton) → AreCandidatesOf scope headers sets origins requests
        → length requests ≤ MOST_CANDIDATES
    by None none = omega (arith, ap length none)
    by (Some origins) (inl picked) =
        let paths = picked.2.0 in
        let made = few_filtered (is_of_scope scope) (map (request_with scope picked.0) paths) in
        omega (arith, ap length picked.2.2, made, length-map paths (request_with scope picked.0), (picked.2.1).few)
    by (Some origins) (inr none) = omega (arith, ap length none.1)

pub spends_more : (old mid new at : ℕ) (own : List Request) → Spends old mid at → Tries mid new (length own)
    → length own ≤ MOST_CANDIDATES → Spends old new (at + 1)
spends_more old mid new at own before tries few =
    (before.0 + tries.0, omega (arith, before.1, tries.1), omega (arith, before.2, tries.2, few))

pub spends_within : (old new at all : ℕ) → Spends old new at → at ≤ all → Spends old new all
spends_within old new at all spends within = (spends.0, spends.1, omega (arith, spends.2, within))

-- ---- leaves as code has them

or_else : (One Other : Option Request → Type 0) (first found : Option Request) → (One found → Other found)
    → OrElse One first found → OrElse Other first found
or_else One Other (Some request) found later is = is
or_else One Other None found later is = later is

-- Fitting leaves have the same candidates.
pub first_same : (asked : Asked) (client : Option Addr) (caller : Caller) (headers : List (List ℕ)) (bad : List LeafIn)
    (leaves : List Leaf) (found : Option Request) → AllFit (LeafFits client caller) bad leaves
    → IsFirstIn asked headers bad found → IsFirst asked headers leaves found
first_same asked client caller headers [] leaves found none is =
    subst (λ leaves. IsFirst asked headers leaves found) (sym none) is
first_same asked client caller headers (own ∷ bad) leaves found fit is =
    subst (λ leaves. IsFirst asked headers leaves found) (sym fit.2) (
      is.0,
      ((own.tied).cell, (fit.3).at.cell, is.1),
      or_else (IsFirstIn asked headers bad) (IsFirst asked headers fit.1)
          (broken_of asked is.0) found (first_same asked client caller headers bad fit.1 found fit.4) is.2,
    )

pub answered_same : (asked : Asked) (client : Option Addr) (caller : Caller) (headers : List (List ℕ))
    (bad : List LeafIn) (leaves : List Leaf) (decided : Decided) → AllFit (LeafFits client caller) bad leaves
    → IsAnsweredIn asked headers bad decided → IsAnswered asked headers leaves decided
answered_same asked client caller headers [] leaves decided none is =
    subst (λ leaves. IsAnswered asked headers leaves decided) (sym none) is
answered_same asked client caller headers (own ∷ bad) leaves decided fit is =
    subst (λ leaves. IsAnswered asked headers leaves decided) (sym fit.2) (
      is.0,
      subst (λ leaves. IsFirst asked headers leaves is.0) fit.2
          (first_same asked client caller headers (own ∷ bad) leaves is.0 fit is.1),
      subst (λ branch. IsShown asked branch is.0 decided) (sym (fit.3).decisions) is.2,
    )

-- ---- one after another

pub rest_from : {A : Type 0} (items : List A) (at : ℕ) (item : A) → at < length items
    → item ≡ slice_index_or items at item → drop at items ≡ item ∷ drop (at + 1) items
rest_from items at item below is = drop_more items at item below ∙ ap (λ one. one ∷ drop (at + 1) items) (sym is)

-- The target of a request of a scope begins with a slash.
pub slash_first : (scope : Scope) (request : Request) → is_of_scope scope request ≡ true
    → begins_with_slash request.target ≡ true
unfolding is_of_scope
slash_first scope request is =
    and_left (begins_with_slash request.target) _ (and_left _ _ (and_left _ _ (and_right _ _ is)))

-- A request that doesn't break the claim is passed over.
pub passed_over : (asked : Asked) (request : Request) (requests : List Request)
    → is_broken asked.world asked.config asked.claim request ≡ false
    → broken_of asked (request ∷ requests) ≡ broken_of asked requests
passed_over asked request requests is =
    ap (λ is. cond is (Some request) (broken_of asked requests)) is

pub found_here : (asked : Asked) (request : Request) (requests : List Request)
    → is_broken asked.world asked.config asked.claim request ≡ true
    → broken_of asked (request ∷ requests) ≡ Some request
found_here asked request requests is = ap (λ is. cond is (Some request) (broken_of asked requests)) is

-- A leaf of whose candidates none breaks the claim is passed over.
pub leaf_over : (asked : Asked) (headers : List (List ℕ)) (leaf : LeafIn) (leaves : List LeafIn) (own : List Request)
    (found : Option Request) → AreCandidates asked.scope headers (leaf.tied).cell own → broken_of asked own ≡ None
    → IsFirstIn asked headers leaves found → IsFirstIn asked headers (leaf ∷ leaves) found
leaf_over asked headers leaf leaves own found are none later =
    (own, are, subst (λ first. OrElse (IsFirstIn asked headers leaves) first found) (sym none) later)

pub leaf_shows : (asked : Asked) (headers : List (List ℕ)) (leaf : LeafIn) (leaves : List LeafIn) (own : List Request)
    (request : Request) → AreCandidates asked.scope headers (leaf.tied).cell own → broken_of asked own ≡ Some request
    → IsFirstIn asked headers (leaf ∷ leaves) (Some request)
leaf_shows asked headers leaf leaves own request are is =
    (own, are, subst (λ first. OrElse (IsFirstIn asked headers leaves) first (Some request)) (sym is) refl)
