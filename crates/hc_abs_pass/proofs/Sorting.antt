-- The tests for the ends, one after the other, are those of the plan, and nothing is left behind them but texts that
-- lead to no end.
use Rattle.hc_abs_pass.proofs.Common.{◌≡◌, ◌∙◌, ℕ, suc, ◌+◌, List, [], ◌∷◌, ◌++◌, map, Bool, true, false}
use Rattle.hc_abs_pass.proofs.Common.{not, ◌&&◌, ◌||◌, Option, Some, None, refl, sym, ap, subst, arith, inl, inr}
use Rattle.hc_abs_pass.proofs.Common.{true≢false, Shown}
use Rattle.std.proofs.lemmas.Bool.{and_from, and_parts}
use Rattle.std.specs.List.{AllByRecursion, IsDistinct, list_any}
use Rattle.std.specs.Str.{bytes_eq}
use Rattle.hc_addr.specs.declared.addr.Addr.{Addr}
use Rattle.hc_base.specs.Paths.{begins_with_slash, is_slash}
use Rattle.hc_dfa.specs.Automata.{accepts}
use Rattle.hc_dfa.specs.Texts.{IsText, TextSet}
use Rattle.hc_model.specs.World.{root}
use Rattle.hc_plan.proofs.Coded.{Follows, both_fit, side_fits}
use Rattle.hc_plan.specs.Branches.{Branch, Branches, OnSide, Sorted, meet, others}
use Rattle.hc_plan.specs.Coded.{AllFit, AreBranches}
use Rattle.hc_plan.specs.Cover.{Among}
use Rattle.hc_plan.specs.Plan.{Plan, leave_out}
use Rattle.hc_plan.specs.States.{AbsState}
use Rattle.hc_plan.specs.Texts.{any}
use Rattle.hc_plan.specs.Ways.{on}
use Rattle.hc_plan.specs.declared.hand.Way.{Way}
use Rattle.hc_steps.specs.Step.{Path}
use Rattle.hc_abs_rw.specs.Templates.{main}
use Rattle.hc_abs_pass.proofs.Alike.{IsEnd, IsSeen, root_fit}
use Rattle.hc_abs_pass.proofs.Apart.{ApartFrom, AreApart, none_slashed, root_apart}
use Rattle.hc_abs_pass.proofs.Arriving.{arrived_fits, from_leads, to_leads}
use Rattle.hc_abs_pass.proofs.Components.{both_ways}
use Rattle.hc_abs_pass.proofs.Somewhere.{root_has}
use Rattle.hc_abs_pass.specs.Walking.{AreEnds, AreTried, AreWalked, AreWalkedOn, HasName, IsLeftOut, IsTried}
use Rattle.hc_abs_pass.specs.Walking.{WalkedFits, leads_somewhere}
use Rattle.hc_abs_pass.specs.Walks.{IsListed, WalkEnd, arrived, at_root, end_at, ends_in, names_at, rooted, walk_plan}
use Rattle.hc_abs_pass.specs.declared.walk.Named.{Named}
use Rattle.hc_abs_pass.specs.declared.walk.Walked.{Walked}
use Rattle.hc_abs_pass.specs.declared.walk_ends.End.{End}

-- ---- what is left behind tests

abbrev left_behind : TextSet → List WalkEnd → TextSet
left_behind rest [] = rest
left_behind rest (end ∷ ends) = left_behind (meet rest (others (rooted end))) ends

left_is : (rest : TextSet) (ends : List WalkEnd) (x : List ℕ)
    → left_behind rest ends x ≡ (rest x && not (list_any (λ end. rooted end x) ends))
left_is rest [] x = by (rest x)
  where
    by : (is : Bool) → is ≡ (is && true)
    by true = refl
    by false = refl
left_is rest (end ∷ ends) x = left_is (meet rest (others (rooted end))) ends x
    ∙ by (rest x) (rooted end x) (list_any (λ end. rooted end x) ends)
  where
    by : (is one more : Bool) → ((is && not one) && not more) ≡ (is && not (one || more))
    by true true more = refl
    by true false more = refl
    by false one more = refl

-- Each set that is left lies within what is left.
abbrev Within : TextSet → List WalkEnd → Type 0
Within rest ends = AllByRecursion (λ end. (x : List ℕ) → rooted end x ≡ true → rest x ≡ true) ends

within_next : (rest : TextSet) (end : WalkEnd) (ends : List WalkEnd) → ApartFrom end ends → Within rest ends
    → Within (meet rest (others (rooted end))) ends
within_next rest end [] apart within = tt
within_next rest end (other ∷ ends) apart within = (
  (λ x is. and_from (rest x) (not (rooted end x)) (within.0 x is) (alone x is (rooted end x) refl)),
  within_next rest end ends apart.1 within.1,
)
  where
    alone : (x : List ℕ) → rooted other x ≡ true → (own : Bool) → rooted end x ≡ own → not own ≡ true
    alone x is false own = refl
    alone [] is true own = absurd (true≢false (sym own))
    alone (b ∷ bs) is true own =
        absurd (apart.0 bs (and_parts (is_slash b) (end.rests bs) own).1 (and_parts (is_slash b) (other.rests bs) is).1)

-- ---- tests

none_left_out : (client : Option Addr) (now : AbsState) → AreBranches (WalkedFits client) leave_out now []
unfolding Branches
none_left_out client now = ([], refl, refl)

module _ (client : Option Addr) (state : AbsState) (named : Named) (has : HasName named client state) where
  on_end : (rest : TextSet) (code : End) (end : WalkEnd) (plan : Plan WalkEnd) (found : List Walked)
      → IsEnd root code end → IsTried named code found → ((x : List ℕ) → rooted end x ≡ true → rest x ≡ true)
      → plan ≡ arrived (Some end)
      → (branches : List (Branch WalkEnd))
      × OnSide state main (meet rest (rooted end)) (λ now. Branches plan now) branches
      × AllFit (WalkedFits client) found branches
  on_end rest code end plan found is_end tried within is =
      side_fits (WalkedFits client) named.tied.cell named.tied.ties named.text.items 0 named.side state main
      has.text.stands (λ now. now) (meet rest (rooted end)) (on true (accepts tried.set)) plan tried.way found
      alike tried.tested (follows tried.way tried.left)
    where
      alike : (x : List ℕ) → IsText x → meet rest (rooted end) x ≡ accepts tried.set x
      alike x bytes = both_ways _ _
          (λ both. (tried.are x bytes).1 (to_leads code end is_end x (and_parts (rest x) (rooted end x) both).1))
          (λ accepted.
          let is = from_leads code end is_end x ((tried.are x bytes).0 accepted) in
          and_from (rest x) (rooted end x) (within x is) is)

      follows : (way : Option Way) → AreWalkedOn named code way found
          → Follows (WalkedFits client) named.tied.cell named.tied.ties named.text.items 0 named.side state main
          has.text.stands (λ now. now) (meet rest (rooted end)) plan way found
      follows None none = none
      follows (Some way) walked = λ now stands keeps.
          subst (λ plan. AreBranches (WalkedFits client) plan now found) (sym is)
          (subst (AreBranches (WalkedFits client) (arrived (Some end)) now) (sym walked.1)
          (arrived_fits client state named has code end is_end way walked.0 walked.2 (meet rest (rooted end))
          (λ x both. (and_parts (rest x) (rooted end x) both).1) now stands keeps))

  -- Behind all ends.
  on_none : (rest : TextSet) (plan : Plan WalkEnd) (way : Option Way) → IsLeftOut named way
      → ((x : List ℕ) → rest x ≡ not (leads_somewhere x)) → plan ≡ leave_out
      → (branches : List (Branch WalkEnd)) × OnSide state main rest (λ now. Branches plan now) branches
      × AllFit (WalkedFits client) [] branches
  on_none rest plan way out same is =
      side_fits (WalkedFits client) named.tied.cell named.tied.ties named.text.items 0 named.side state main
      has.text.stands (λ now. now) rest (on false (accepts out.set)) plan way []
      (λ x bytes. same x ∙ ap not (sym (out.are x bytes))) out.tested (follows way)
    where
      follows : (way : Option Way)
          → Follows (WalkedFits client) named.tied.cell named.tied.ties named.text.items 0 named.side state main
          has.text.stands (λ now. now) rest plan way []
      follows None = refl
      follows (Some way) = λ now stands keeps.
          subst (λ plan. AreBranches (WalkedFits client) plan now []) (sym is) (none_left_out client now)

  module _ (next : ℕ → Plan WalkEnd) (way : Option Way) (out : IsLeftOut named way) where
    abbrev IsSorted : TextSet → ℕ → List Walked → List WalkEnd → Type 0
    IsSorted rest at found ends = (branches : List (Branch WalkEnd))
        × Sorted state main rest (map rooted ends) at (λ at. Branches (next at)) branches
        × AllFit (WalkedFits client) found branches

    sorted : (rest : TextSet) (at : ℕ) (codes : List End) (ends : List WalkEnd) (found : List Walked)
        → AllFit (IsEnd root) codes ends → AreTried named codes found → AreApart ends → Within rest ends
        → ((x : List ℕ) → left_behind rest ends x ≡ not (leads_somewhere x))
        → ((k n : ℕ) → n ≡ at + k → next n ≡ arrived (end_at ends k)) → IsSorted rest at found ends
    sorted rest at [] ends found fit tried apart within left plans =
        subst (IsSorted rest at found) (sym fit)
        (subst (λ found. IsSorted rest at found []) (sym tried)
        (on_none rest (next at) way out (λ x. ap (λ ends. left_behind rest ends x) (sym fit) ∙ left x)
        (plans 0 at (omega arith) ∙ ap (λ ends. arrived (end_at ends 0)) fit)))
    sorted rest at (code ∷ codes) ends found fit tried apart within left plans =
        subst (IsSorted rest at found) (sym fit.2)
        (subst (λ found. IsSorted rest at found (fit.0 ∷ fit.1)) (sym tried.2)
        (both one (sorted (meet rest (others (rooted fit.0))) (suc at) codes fit.1 tried.1 fit.4 tried.4 all_apart.1
        (within_next rest fit.0 fit.1 all_apart.0 all_within.1)
        (λ x. ap (λ ends. left_behind rest ends x) (sym fit.2) ∙ left x)
        (λ k n is. all_plans (suc k) n (omega (arith, is))))))
      where
        all_apart : AreApart (fit.0 ∷ fit.1)
        all_apart = subst AreApart fit.2 apart

        all_within : Within rest (fit.0 ∷ fit.1)
        all_within = subst (Within rest) fit.2 within

        all_plans : (k n : ℕ) → n ≡ at + k → next n ≡ arrived (end_at (fit.0 ∷ fit.1) k)
        all_plans k n is = plans k n is ∙ ap (λ ends. arrived (end_at ends k)) fit.2

        one : (branches : List (Branch WalkEnd))
            × OnSide state main (meet rest (rooted fit.0)) (λ now. Branches (next at) now) branches
            × AllFit (WalkedFits client) tried.0 branches
        one = on_end rest code fit.0 (next at) tried.0 fit.3 tried.3 all_within.0 (all_plans 0 at (omega arith))

        both : ((branches : List (Branch WalkEnd))
            × OnSide state main (meet rest (rooted fit.0)) (λ now. Branches (next at) now) branches
            × AllFit (WalkedFits client) tried.0 branches)
            → IsSorted (meet rest (others (rooted fit.0))) (suc at) tried.1 fit.1
            → IsSorted rest at (tried.0 ++ tried.1) (fit.0 ∷ fit.1)
        both one more = (
          one.0 ++ more.0,
          (one.0, more.0, refl, one.1, more.1),
          both_fit (WalkedFits client) tried.0 tried.1 one.0 more.0 one.2 more.2,
        )

-- ---- all texts

any_has : (ends : List WalkEnd) (x : List ℕ) (end : WalkEnd) → Among end ends → rooted end x ≡ true
    → list_any (λ end. rooted end x) ends ≡ true
any_has [] x end among is = absurd among
any_has (first ∷ ends) x end (inl same) is =
    ap (λ end. rooted end x || list_any (λ end. rooted end x) ends) (sym same)
    ∙ ap (λ is. is || list_any (λ end. rooted end x) ends) is
any_has (first ∷ ends) x end (inr among) is = by (rooted first x) (any_has ends x end among is)
  where
    by : (one : Bool) → list_any (λ end. rooted end x) ends ≡ true
        → (one || list_any (λ end. rooted end x) ends) ≡ true
    by true more = refl
    by false more = more

has_any : (ends : List WalkEnd) (b : ℕ) (bs : List ℕ)
    → AllByRecursion (λ end. (rest : List ℕ) → end.rests rest ≡ true → begins_with_slash rest ≡ false) ends
    → list_any (λ end. rooted end (b ∷ bs)) ends ≡ true → (is_slash b ≡ true) × (begins_with_slash bs ≡ false)
has_any [] b bs plain some = absurd (true≢false (sym some))
has_any (end ∷ ends) b bs plain some = by (rooted end (b ∷ bs)) refl (has_any ends b bs plain.1) some
  where
    by : (one : Bool) → rooted end (b ∷ bs) ≡ one
        → (list_any (λ end. rooted end (b ∷ bs)) ends ≡ true → (is_slash b ≡ true) × (begins_with_slash bs ≡ false))
        → (one || list_any (λ end. rooted end (b ∷ bs)) ends) ≡ true
        → (is_slash b ≡ true) × (begins_with_slash bs ≡ false)
    by true is more some = let parts = and_parts (is_slash b) (end.rests bs) is in (parts.0, plain.0 bs parts.1)
    by false is more some = more some

module _ (shown : Shown) (seen : IsSeen shown) (distinct : (path : Path) → IsDistinct bytes_eq (names_at shown path))
  where
    -- Those that begin with one slash have an end.
    lead : (levels : ℕ) → IsListed levels shown → (x : List ℕ)
        → list_any (λ end. rooted end x) (ends_in levels shown at_root) ≡ leads_somewhere x
    lead levels listed [] = none (ends_in levels shown at_root)
      where
        none : (ends : List WalkEnd) → list_any (λ end. rooted end []) ends ≡ false
        none [] = refl
        none (end ∷ ends) = none ends
    lead levels listed (b ∷ bs) = both_ways _ _
        (λ some.
        let is = has_any (ends_in levels shown at_root) b bs
        (none_slashed levels shown listed seen distinct levels) some in
        and_from (is_slash b) (not (begins_with_slash bs)) is.0 (ap not is.1))
        (λ leads.
        let parts = and_parts (is_slash b) (not (begins_with_slash bs)) leads in
        let has = root_has levels shown listed bs (single (begins_with_slash bs) parts.1) in
        any_has (ends_in levels shown at_root) (b ∷ bs) has.0 has.1
        (and_from (is_slash b) ((has.0).rests bs) parts.0 has.2))
      where
        single : (is : Bool) → not is ≡ true → is ≡ false
        single true wrong = absurd (true≢false (sym wrong))
        single false is = refl

    all_within : (ends : List WalkEnd) → Within any ends
    all_within [] = tt
    all_within (end ∷ ends) = ((λ x is. refl), all_within ends)

    pub walked_fit : (named : Named) (ends : List End) (found : List Walked) (way : Option Way) → AreEnds shown ends
        → AreTried named ends found → IsLeftOut named way → AreWalked shown named found
    unfolding Branches walk_plan
    walked_fit named ends found way are tried out client state levels listed has =
        let plan_ends = ends_in levels shown at_root in
        let fit = subst (λ codes. AllFit (IsEnd root) codes plan_ends) (sym (are levels listed))
        (root_fit levels shown listed seen) in
        sorted client state named has (λ place. arrived (end_at plan_ends place)) way out any 0 ends plan_ends found fit
        tried (root_apart levels shown listed seen distinct) (all_within plan_ends)
        (λ x. left_is any plan_ends x ∙ ap not (lead levels listed x))
        (λ k n is. ap (λ place. arrived (end_at plan_ends place)) (let same : n ≡ k = omega (arith, is) in same))
