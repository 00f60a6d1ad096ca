-- The plan of the forks of an expression is that of the expression.
use Rattle.std.proofs.Common.{◌≡◌, ◌∙◌, ℕ, zero, suc, ◌+◌, List, [], ◌∷◌, ◌++◌, map, length, Bool, true, false, not, refl, sym}
use Rattle.std.proofs.Common.{ap, ap₂, append_assoc, append-nil, length-append, arith}
use Rattle.hc_plan.proofs.Common.{fun_ext}
use Rattle.hc_merge.specs.Reaching.{behind_each, chained}
use Rattle.hc_model.specs.declared.expression.Expr.{Expr, fold-roll-Expr}
use Rattle.hc_model.specs.declared.expression.Expr.TheOpen.{Expr-F}
use Rattle.hc_model.specs.declared.expression.Expr.TheVariants.{rolls-Yes, rolls-No, rolls-Not, rolls-And, rolls-Or}
use Rattle.hc_model.specs.declared.expression.Expr.TheVariants.{rolls-Same, rolls-Search, rolls-IpMatch}
use Rattle.hc_plan.specs.Plan.{Plan, and_then, done}
use Rattle.hc_rw_eval.specs.Conditions.{counted}
use Rattle.hc_abs_pass.specs.Views.{Scene, Ways, is_same, left_first, level_ways, ways_of}
use Rattle.hc_abs_view.specs.Jumping.{asked_ways, fork_plan, forks_plan, rest_plan, target_of}
use Rattle.hc_abs_view.specs.Trees.{Asked, AreForks, Fork, Tree, always, asked_expr, expr_in, first_lead, forks_before, forks_of}
use Rattle.hc_abs_view.specs.Trees.{further, joined, lead_before, lead_by, lead_last, lead_of_first, leaf, leaves}
use Rattle.hc_abs_view.specs.Trees.{opposed, opposite, same, search, within}
use Rattle.hc_abs_view.specs.declared.jump.Lead.{Lead}
use Rattle.hc_abs_view.specs.declared.jump.Target.{Target}
use Rattle.hc_abs_view.specs.declared.jump.Target.TheVariants.{Behind, Over}

-- ---- one fork

module _ (scene : Scene) where
  pub asked_then : {A B : Type 0} (asked : Asked) (negated : Bool) (plan : Bool → Plan A) (next : A → Plan B)
      → and_then (asked_ways scene asked negated plan) next ≡ asked_ways scene asked negated (λ is. and_then (plan is) next)
  unfolding and_then
  asked_then (always is) negated plan next = refl
  asked_then (same left right) negated plan next = refl
  asked_then (search text pattern) negated plan next = refl
  asked_then (within text net) negated plan next = refl

  pub fork_then : (fork : Fork) (forks : List Fork) (target : Target)
      → and_then (fork_plan scene fork target) (rest_plan scene forks) ≡ rest_plan scene (fork ∷ forks) target
  unfolding and_then
  fork_then fork forks (Over is) = refl
  fork_then fork forks (Behind zero) =
      asked_then fork.asked fork.lead.negated (λ is. done (target_of fork.lead is)) (rest_plan scene forks)
  fork_then fork forks (Behind (suc count)) = refl

-- ---- how many forks there are

pub forks_count : (tree : Tree) (lead : Lead) → length (forks_of tree lead) ≡ leaves tree
forks_count (leaf asked) lead = refl
forks_count (opposite tree) lead = forks_count tree (opposed lead)
forks_count (joined decides first second) lead =
    length-append (forks_of first (lead_of_first decides (leaves second) lead)) (forks_of second lead)
    ∙ ap₂ (λ one other. one + other) (forks_count first (lead_of_first decides (leaves second) lead))
    (forks_count second lead)

-- ---- the tree of an expression

module _ {A : Type 0} (scene : Scene) where
  abbrev tree_ways : Tree → Ways A
  tree_ways (leaf asked) = asked_ways scene asked
  tree_ways (opposite tree) = λ negated plan. tree_ways tree (not negated) plan
  tree_ways (joined decides first second) = left_first decides (tree_ways first) (tree_ways second)

  asked_as : (asked : Asked) → ways_of scene (asked_expr asked) ≡ asked_ways {A = A} scene asked
  asked_as (always true) = ap (ways_of scene) (sym rolls-Yes) ∙ fold-roll-Expr (Ways A) (level_ways scene) Expr-F.Yes
  asked_as (always false) = ap (ways_of scene) (sym rolls-No) ∙ fold-roll-Expr (Ways A) (level_ways scene) Expr-F.No
  asked_as (same left right) = ap (ways_of scene) (sym (rolls-Same left right))
      ∙ fold-roll-Expr (Ways A) (level_ways scene) (Expr-F.Same left right)
  asked_as (search text pattern) = ap (ways_of scene) (sym (rolls-Search text pattern))
      ∙ fold-roll-Expr (Ways A) (level_ways scene) (Expr-F.Search text pattern)
  asked_as (within text net) = ap (ways_of scene) (sym (rolls-IpMatch text net))
      ∙ fold-roll-Expr (Ways A) (level_ways scene) (Expr-F.IpMatch text net)

  pub tree_as : (tree : Tree) → ways_of scene (expr_in tree) ≡ tree_ways tree
  tree_as (leaf asked) = asked_as asked
  tree_as (opposite tree) =
      let inverted : Ways A → Ways A = λ ways negated plan. ways (not negated) plan in
      ap (ways_of scene) (sym (rolls-Not (expr_in tree)))
      ∙ fold-roll-Expr (Ways A) (level_ways scene) (Expr-F.Not (expr_in tree))
      ∙ ap inverted (tree_as tree)
  tree_as (joined true first second) =
      ap (ways_of scene) (sym (rolls-Or (expr_in first) (expr_in second)))
      ∙ fold-roll-Expr (Ways A) (level_ways scene) (Expr-F.Or (expr_in first) (expr_in second))
      ∙ ap₂ (left_first true) (tree_as first) (tree_as second)
  tree_as (joined false first second) =
      ap (ways_of scene) (sym (rolls-And (expr_in first) (expr_in second)))
      ∙ fold-roll-Expr (Ways A) (level_ways scene) (Expr-F.And (expr_in first) (expr_in second))
      ∙ ap₂ (left_first false) (tree_as first) (tree_as second)

-- ---- the forks of a tree

module _ (scene : Scene) where
  past_all : (front behind : List Fork) (count : ℕ)
      → forks_plan scene (front ++ behind) (length front + count) ≡ forks_plan scene behind count
  past_all [] behind count =
      let none : 0 + count ≡ count = omega arith in
      ap (forks_plan scene behind) none
  past_all (fork ∷ front) behind count =
      let one : suc (length front) + count ≡ suc (length front + count) = omega arith in
      ap (forks_plan scene ((fork ∷ front) ++ behind)) one ∙ past_all front behind count

  past_tree : (tree : Tree) (lead : Lead) (behind : List Fork) (target : Target)
      → rest_plan scene (forks_of tree lead ++ behind) (further (leaves tree) target) ≡ rest_plan scene behind target
  past_tree tree lead behind (Over is) = refl
  past_tree tree lead behind (Behind count) =
      ap (λ own. forks_plan scene (forks_of tree lead ++ behind) (own + count)) (sym (forks_count tree lead))
      ∙ past_all (forks_of tree lead) behind count

  abbrev LeadsAs : Tree → Type 0
  LeadsAs tree = (lead : Lead) (behind : List Fork)
      → rest_plan scene (forks_of tree lead ++ behind) (Behind 0)
      ≡ tree_ways scene tree lead.negated (λ is. rest_plan scene behind (target_of lead is))

  -- Where the first part decides, and where it leads to the second.
  either_way : (second : Tree) → LeadsAs second → (lead : Lead) (behind : List Fork) (decides is : Bool)
      → rest_plan scene (forks_of second lead ++ behind) (target_of (lead_of_first decides (leaves second) lead) is)
      ≡ elim (is_same (counted lead.negated decides) is) [
        | true ↦ rest_plan scene behind (target_of lead is)
        | false ↦ tree_ways scene second lead.negated (λ is. rest_plan scene behind (target_of lead is))
      ]
  either_way second leads lead behind decides is = by (counted lead.negated decides) is
    where
      by : (at is : Bool)
          → rest_plan scene (forks_of second lead ++ behind) (target_of (first_lead at (leaves second) lead) is)
          ≡ elim (is_same at is) [
            | true ↦ rest_plan scene behind (target_of lead is)
            | false ↦ tree_ways scene second lead.negated (λ is. rest_plan scene behind (target_of lead is))
          ]
      by true true = past_tree second lead behind lead.yes
      by true false = leads lead behind
      by false true = leads lead behind
      by false false = past_tree second lead behind lead.no

  leads_as : (tree : Tree) → LeadsAs tree
  leads_as (leaf asked) lead behind = refl
  leads_as (opposite tree) lead behind =
      leads_as tree (opposed lead) behind
      ∙ ap (tree_ways scene tree (not lead.negated)) (fun_ext (λ is. ap (rest_plan scene behind) (same_target is)))
    where
      same_target : (is : Bool) → target_of (opposed lead) is ≡ target_of lead is
      same_target true = refl
      same_target false = refl
  leads_as (joined decides first second) lead behind =
      let lead_first = lead_of_first decides (leaves second) lead in
      ap (λ forks. rest_plan scene forks (Behind 0))
      (append_assoc (forks_of first lead_first) (forks_of second lead) behind)
      ∙ leads_as first lead_first (forks_of second lead ++ behind)
      ∙ ap₂ (tree_ways scene first) (same_negated decides)
      (fun_ext (either_way second (leads_as second) lead behind decides))
    where
      same_negated : (decides : Bool) → (lead_of_first decides (leaves second) lead).negated ≡ lead.negated
      same_negated decides = by (counted lead.negated decides)
        where
          by : (at : Bool) → (first_lead at (leaves second) lead).negated ≡ lead.negated
          by true = refl
          by false = refl

-- ---- chains

abbrev tree_behind : Tree → List Tree → Tree → Tree
tree_behind none [] tree = joined false none tree
tree_behind none (before ∷ chain) tree = tree_behind (joined false none (opposite before)) chain tree

abbrev chain_tree : List Tree → Tree → Tree
chain_tree [] tree = tree
chain_tree (first ∷ chain) tree = tree_behind (opposite first) chain tree

expr_behind : (none : Tree) (chain : List Tree) (tree : Tree)
    → behind_each (expr_in none) (map expr_in chain) (expr_in tree) ≡ expr_in (tree_behind none chain tree)
expr_behind none [] tree = refl
expr_behind none (before ∷ chain) tree = expr_behind (joined false none (opposite before)) chain tree

expr_of_chain : (chain : List Tree) (tree : Tree)
    → chained (map expr_in chain) (expr_in tree) ≡ expr_in (chain_tree chain tree)
expr_of_chain [] tree = refl
expr_of_chain (first ∷ chain) tree = expr_behind (opposite first) chain tree

abbrev lead_on : Lead
lead_on = lead_by false (Behind 0) (Over false)

forks_behind : (none : Tree) (chain : List Tree) (tree : Tree)
    → forks_of (tree_behind none chain tree) lead_last
    ≡ forks_of none lead_on ++ (forks_before chain ++ forks_of tree lead_last)
forks_behind none [] tree = refl
forks_behind none (before ∷ chain) tree =
    forks_behind (joined false none (opposite before)) chain tree
    ∙ append_assoc (forks_of none lead_on) (forks_of before lead_before) (forks_before chain ++ forks_of tree lead_last)
    ∙ ap (λ rest. forks_of none lead_on ++ rest)
    (sym (append_assoc (forks_of before lead_before) (forks_before chain) (forks_of tree lead_last)))

forks_of_chain : (chain : List Tree) (tree : Tree)
    → forks_of (chain_tree chain tree) lead_last ≡ forks_before chain ++ forks_of tree lead_last
forks_of_chain [] tree = refl
forks_of_chain (first ∷ chain) tree =
    forks_behind (opposite first) chain tree
    ∙ sym (append_assoc (forks_of first lead_before) (forks_before chain) (forks_of tree lead_last))

-- ---- an expression behind a chain of others

over : (scene : Scene) (is : Bool) → rest_plan scene [] (target_of lead_last is) ≡ done is
over scene true = refl
over scene false = refl

pub forks_as : (scene : Scene) (chain : List Expr) (expr : Expr) (forks : List Fork) → AreForks chain expr forks
    → rest_plan scene forks (Behind 0) ≡ ways_of scene (chained chain expr) false (λ is. done is)
forks_as scene chain expr forks are =
    let before = are.1 in
    let last = are.2 in
    let whole : Tree = chain_tree before.0 last.0 in
    let at_once : Ways Bool → Plan Bool = λ ways. ways false (λ is. rest_plan scene [] (target_of lead_last is)) in
    let as_plan : Expr → (Bool → Plan Bool) → Plan Bool = λ expr plan. ways_of scene expr false plan in
    ap (λ forks. rest_plan scene forks (Behind 0))
    (last.2 ∙ ap (λ front. front ++ forks_of last.0 lead_last) before.2 ∙ sym (forks_of_chain before.0 last.0)
    ∙ sym (append-nil (forks_of whole lead_last)))
    ∙ leads_as scene whole lead_last []
    ∙ ap at_once (sym (tree_as scene whole))
    ∙ ap₂ as_plan (sym (expr_of_chain before.0 last.0) ∙ ap₂ chained before.1 last.1) (fun_ext (over scene))
