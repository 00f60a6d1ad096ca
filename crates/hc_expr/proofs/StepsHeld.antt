-- The parts of an expression hold step by step as its tree does.
use Rattle.std.proofs.Common.{◌≡◌, List, [], ◌∷◌, Bool, true, false, not, ◌&&◌, ◌||◌, refl, ap, sym}
use Rattle.std.proofs.Common.{◌∙◌}
use Rattle.std.specs.Prelude.{map}
use Rattle.hc_model.specs.Steps.{expr_of, top_of, trees_of, with_step}
use Rattle.hc_addr.specs.declared.net.Net.{Net}
use Rattle.hc_model.specs.declared.expression.Expr.{Expr, fold-roll-Expr}
use Rattle.hc_model.specs.declared.expression.Expr.TheOpen.{Expr-F}
use Rattle.hc_model.specs.declared.expression.Expr.TheVariants as expr
use Rattle.hc_model.specs.declared.expression.Expr.TheVariants.{rolls-Yes, rolls-No, rolls-Not, rolls-And, rolls-Or}
use Rattle.hc_model.specs.declared.expression.Expr.TheVariants.{rolls-Same, rolls-Search, rolls-IpMatch}
use Rattle.hc_model.specs.declared.template.Piece.{Piece}
use Rattle.hc_pattern.specs.Pattern.{Pattern}
use Rattle.hc_model.specs.declared.expression.ExprStep.{ExprStep}
use Rattle.hc_model.specs.declared.expression.ExprStep.TheVariants as step
use Rattle.hc_model.specs.declared.request.View.{View}
use Rattle.hc_expr.specs.Held.{held_after, top_held, with_held}
use Rattle.hc_expr.specs.Values.{holds, level_holds}

module _ (view : View) where
  yes_holds : holds view expr.Yes ≡ true
  yes_holds = ap (holds view) (sym rolls-Yes) ∙ fold-roll-Expr Bool (level_holds view) Expr-F.Yes

  no_holds : holds view expr.No ≡ false
  no_holds = ap (holds view) (sym rolls-No) ∙ fold-roll-Expr Bool (level_holds view) Expr-F.No

  same_holds : (left right : List Piece) → holds view (expr.Same left right)
      ≡ level_holds view (Expr-F.Same left right)
  same_holds left right = ap (holds view) (sym (rolls-Same left right)) ∙ fold-roll-Expr Bool (level_holds view)
      (Expr-F.Same left right)

  search_holds : (text : List Piece) (pattern : Pattern) → holds view (expr.Search text pattern)
      ≡ level_holds view (Expr-F.Search text pattern)
  search_holds text pattern = ap (holds view) (sym (rolls-Search text pattern))
      ∙ fold-roll-Expr Bool (level_holds view) (Expr-F.Search text pattern)

  match_holds : (text : List Piece) (net : Net) → holds view (expr.IpMatch text net)
      ≡ level_holds view (Expr-F.IpMatch text net)
  match_holds text net = ap (holds view) (sym (rolls-IpMatch text net)) ∙ fold-roll-Expr Bool (level_holds view)
      (Expr-F.IpMatch text net)

  pub not_holds : (part : Expr) → holds view (expr.Not part) ≡ not (holds view part)
  not_holds part = ap (holds view) (sym (rolls-Not part)) ∙ fold-roll-Expr Bool (level_holds view) (Expr-F.Not part)

  pub and_holds : (first second : Expr) → holds view (expr.And first second) ≡ holds view first && holds view second
  and_holds first second = ap (holds view) (sym (rolls-And first second)) ∙ fold-roll-Expr Bool (level_holds view)
      (Expr-F.And first second)

  or_holds : (first second : Expr) → holds view (expr.Or first second) ≡ holds view first || holds view second
  or_holds first second = ap (holds view) (sym (rolls-Or first second)) ∙ fold-roll-Expr Bool (level_holds view)
      (Expr-F.Or first second)

  on_top : (trees : List Expr) (held : Bool) (tree : Expr) → holds view tree ≡ held
      → held ∷ map (holds view) trees ≡ map (holds view) (tree ∷ trees)
  on_top trees held tree is = ap (λ b. b ∷ map (holds view) trees) (sym is)

  held_step : (step : ExprStep) (trees : List Expr) → with_held view step (map (holds view) trees)
      ≡ map (holds view) (with_step step trees)
  held_step step.Yes trees = on_top trees true expr.Yes yes_holds
  held_step step.No trees = on_top trees false expr.No no_holds
  held_step (step.Same left right) trees = on_top trees _ (expr.Same left right) (same_holds left right)
  held_step (step.Search text pattern) trees = on_top trees _ (expr.Search text pattern) (search_holds text pattern)
  held_step (step.IpMatch text net) trees = on_top trees _ (expr.IpMatch text net) (match_holds text net)
  held_step step.Not [] = refl
  held_step step.Not (part ∷ trees) = on_top trees _ (expr.Not part) (not_holds part)
  held_step step.And [] = refl
  held_step step.And (first ∷ []) = refl
  held_step step.And (first ∷ second ∷ trees) = on_top trees _ (expr.And first second) (and_holds first second)
  held_step step.Or [] = refl
  held_step step.Or (first ∷ []) = refl
  held_step step.Or (first ∷ second ∷ trees) = on_top trees _ (expr.Or first second) (or_holds first second)

held_steps : (view : View) (steps : List ExprStep) (trees : List Expr)
    → held_after view steps (map (holds view) trees) ≡ map (holds view) (trees_of steps trees)
held_steps view [] trees = refl
held_steps view (step ∷ steps) trees = ap (held_after view steps) (held_step view step trees)
    ∙ held_steps view steps (with_step step trees)

top_of_held : (view : View) (trees : List Expr) → top_held (map (holds view) trees) ≡ holds view (top_of trees)
top_of_held view [] = sym (no_holds view)
top_of_held view (tree ∷ trees) = refl

pub held_as_tree : (view : View) (steps : List ExprStep) → top_held (held_after view steps [])
    ≡ holds view (expr_of steps)
held_as_tree view steps = ap top_held (held_steps view steps []) ∙ top_of_held view (trees_of steps [])
