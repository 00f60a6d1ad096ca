-- What each branch leaves, one behind the other.
use Rattle.std.proofs.Common.{◌≡◌, ◌∙◌, List, [], ◌∷◌, ◌++◌, refl, sym, ap, append_assoc, append-nil, subst}
use Rattle.hc_plan.specs.Branches.{Branch}
use Rattle.hc_plan.specs.Coded.{AreNext, IsNext}
use Rattle.hc_plan.specs.Plan.{Plan}
use Rattle.hc_abs_force.specs.Marking.{EachLeaves}
use Rattle.hc_abs_force.specs.declared.forcing.Forced.{Forced}

module _ (Leaves : Forced → List Forced → Type 0) where
  each_more : (earlier : List Forced) (one : Forced) (later found : List Forced) → EachLeaves Leaves earlier later
      → Leaves one found → EachLeaves Leaves (earlier ++ one ∷ []) (later ++ found)
  each_more [] one later found are is =
      (found, [], ap (λ later. later ++ found) are ∙ sym (append-nil found), is, refl)
  each_more (first ∷ earlier) one later found are is = (
    are.0,
    are.1 ++ found,
    ap (λ later. later ++ found) are.2 ∙ append_assoc are.0 are.1 found,
    are.3,
    each_more earlier one are.1 found are.4 is,
  )

  pub each_added : (earlier : List Forced) (one : Forced) (later found after : List Forced)
      → EachLeaves Leaves earlier later → after ≡ later ++ found → Leaves one found
      → EachLeaves Leaves (earlier ++ one ∷ []) after
  each_added earlier one later found after are same is =
      subst (EachLeaves Leaves (earlier ++ one ∷ [])) (sym same) (each_more earlier one later found are is)

  pub each_so : (Other : Forced → List Forced → Type 0)
      → ((one : Forced) (found : List Forced) → Leaves one found → Other one found) → (earlier later : List Forced)
      → EachLeaves Leaves earlier later → EachLeaves Other earlier later
  each_so Other so [] later are = are
  each_so Other so (one ∷ earlier) later are =
      (are.0, are.1, are.2, so one are.0 are.3, each_so Other so earlier are.1 are.4)

  pub each_next : {A B : Type 0} (First : Forced → Branch A → Type 0) (Fit : Forced → Branch B → Type 0)
      (next : A → Plan B)
      → ((one : Forced) (found : List Forced) → Leaves one found → IsNext First Fit next one found)
      → (earlier later : List Forced) → EachLeaves Leaves earlier later → AreNext First Fit next earlier later
  each_next First Fit next so [] later are = are
  each_next First Fit next so (one ∷ earlier) later are =
      (are.0, are.1, are.2, so one are.0 are.3, each_next First Fit next so earlier are.1 are.4)
