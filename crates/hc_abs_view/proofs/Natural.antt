-- What follows an expression is what follows the end of its plan.
use Rattle.std.proofs.Common.{◌≡◌, ◌∙◌, Bool, true, false, not, refl, sym, ap, subst}
use Rattle.hc_plan.proofs.Common.{fun_ext}
use Rattle.hc_model.specs.declared.expression.Expr.{Expr, fold-roll-Expr, ind-Expr, map-Expr, roll-Expr}
use Rattle.hc_model.specs.declared.expression.Expr.TheOpen.{Expr-F}
use Rattle.hc_plan.specs.Plan.{Plan, and_then, done}
use Rattle.hc_rw_eval.specs.Conditions.{counted}
use Rattle.hc_abs_pass.specs.Views.{Scene, Ways, is_same, left_first, level_ways, ways_of}

module _ (A B : Type 0) (scene : Scene) where
  -- What follows each end of a plan follows the expression.
  abbrev Follows : Ways A → Ways B → Type 0
  Follows ways all = (negated : Bool) (plan : Bool → Plan A) (next : A → Plan B)
      → and_then (ways negated plan) next ≡ all negated (λ is. and_then (plan is) next)

  abbrev FollowsIn : Expr → Type 0
  FollowsIn expr = Follows (ways_of scene expr) (ways_of scene expr)

  left_follows : (decides : Bool) (left right : Ways A) (left_all right_all : Ways B) → Follows left left_all
      → Follows right right_all → Follows (left_first decides left right) (left_first decides left_all right_all)
  left_follows decides left right left_all right_all is_left is_right negated plan next =
      is_left negated _ next ∙ ap (left_all negated) (fun_ext (λ is. by (is_same (counted negated decides) is) is))
    where
      by : (same is : Bool)
          → and_then (elim same [ true ↦ plan is | false ↦ right negated plan ]) next
          ≡ elim same [ true ↦ and_then (plan is) next | false ↦ right_all negated (λ is. and_then (plan is) next) ]
      by true is = refl
      by false is = is_right negated plan next

  abbrev Member : Type 0
  Member = (expr : Expr) × FollowsIn expr

  abbrev read_expr : Member → Expr
  read_expr member = member.0

  led : (level : Expr-F Expr) (ways : Ways A) (all : Ways B) → ways_of scene (roll-Expr level) ≡ ways
      → ways_of scene (roll-Expr level) ≡ all → Follows ways all → FollowsIn (roll-Expr level)
  led level ways all is is_all follows =
      subst (λ ways. Follows ways (ways_of scene (roll-Expr level))) (sym is) (subst (Follows ways) (sym is_all) follows)

  by_fold : (level : Expr-F Expr)
      → Follows (level_ways scene (map-Expr Expr (Ways A) (ways_of scene) level))
      (level_ways scene (map-Expr Expr (Ways B) (ways_of scene) level)) → FollowsIn (roll-Expr level)
  by_fold level =
      led level _ _ (fold-roll-Expr (Ways A) (level_ways scene) level) (fold-roll-Expr (Ways B) (level_ways scene) level)

  by_level : (level : Expr-F Member) → FollowsIn (roll-Expr (map-Expr Member Expr read_expr level))
  unfolding and_then
  by_level Expr-F.Yes = by_fold Expr-F.Yes (λ negated plan next. refl)
  by_level Expr-F.No = by_fold Expr-F.No (λ negated plan next. refl)
  by_level (Expr-F.Not inner) = by_fold (Expr-F.Not inner.0) (λ negated plan next. inner.1 (not negated) plan next)
  by_level (Expr-F.And left right) =
      by_fold (Expr-F.And left.0 right.0) (left_follows false (ways_of scene left.0)
      (ways_of scene right.0) (ways_of scene left.0) (ways_of scene right.0) left.1 right.1)
  by_level (Expr-F.Or left right) =
      by_fold (Expr-F.Or left.0 right.0) (left_follows true (ways_of scene left.0)
      (ways_of scene right.0) (ways_of scene left.0) (ways_of scene right.0) left.1 right.1)
  by_level (Expr-F.Same left right) = by_fold (Expr-F.Same left right) (λ negated plan next. refl)
  by_level (Expr-F.Search left pattern) = by_fold (Expr-F.Search left pattern) (λ negated plan next. refl)
  by_level (Expr-F.IpMatch left net) = by_fold (Expr-F.IpMatch left net) (λ negated plan next. refl)

  pub ways_then : (expr : Expr) → FollowsIn expr
  ways_then = ind-Expr FollowsIn (λ level members is. subst (λ level. FollowsIn (roll-Expr level)) is (by_level members))

-- The plan of an expression, and then what follows by whether it holds.
pub holds_then : {A : Type 0} (scene : Scene) (expr : Expr) (negated : Bool) (plan : Bool → Plan A)
    → ways_of scene expr negated plan ≡ and_then (ways_of scene expr negated (λ is. done is)) plan
unfolding and_then
holds_then {A} scene expr negated plan = sym (ways_then Bool A scene expr negated (λ is. done is) plan)
