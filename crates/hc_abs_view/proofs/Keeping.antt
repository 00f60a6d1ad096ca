-- The steps that are kept begin with the tree of the expression.
use Rattle.std.proofs.Common.{◌≡◌, ◌∙◌, List, [], ◌∷◌, ◌++◌, map, length, true, false, refl, sym, ap}
use Rattle.std.proofs.lemmas.List.{length-map, length-reverse}
use Rattle.std.specs.Prelude.{reverse}
use Rattle.hc_model.specs.Steps.{expr_of, top_of, trees_of, with_step}
use Rattle.hc_model.specs.declared.expression.ExprStep.{ExprStep}
use Rattle.hc_model.specs.declared.expression.ExprStep.TheVariants as step
use Rattle.hc_abs_view.specs.Tokens.{BeginWith, Stack, Token, all_tokens, ask, kept_after, token_of, tokens_of, with_kept}
use Rattle.hc_abs_view.specs.Trees.{Tree, always, expr_in, joined, leaf, leaves, opposite, same, search, within}
use Rattle.hc_abs_view.specs.declared.kept.Kept.{Kept}

abbrev trees_with : ExprStep → List Tree → List Tree
trees_with step.Yes trees = leaf (always true) ∷ trees
trees_with step.No trees = leaf (always false) ∷ trees
trees_with (step.Same left right) trees = leaf (same left right) ∷ trees
trees_with (step.Search text pattern) trees = leaf (search text pattern) ∷ trees
trees_with (step.IpMatch text net) trees = leaf (within text net) ∷ trees
trees_with step.Not [] = []
trees_with step.Not (tree ∷ trees) = opposite tree ∷ trees
trees_with step.And [] = []
trees_with step.And (one ∷ []) = one ∷ []
trees_with step.And (first ∷ second ∷ trees) = joined false first second ∷ trees
trees_with step.Or [] = []
trees_with step.Or (one ∷ []) = one ∷ []
trees_with step.Or (first ∷ second ∷ trees) = joined true first second ∷ trees

abbrev stack_at : List Tree → Stack
stack_at trees = record { tokens = all_tokens trees; counts = map leaves trees }

kept_is : (step : ExprStep) (trees : List Tree) → with_kept step (stack_at trees) ≡ stack_at (trees_with step trees)
kept_is step.Yes trees = refl
kept_is step.No trees = refl
kept_is (step.Same left right) trees = refl
kept_is (step.Search text pattern) trees = refl
kept_is (step.IpMatch text net) trees = refl
kept_is step.Not [] = refl
kept_is step.Not (tree ∷ trees) = refl
kept_is step.And [] = refl
kept_is step.And (one ∷ []) = refl
kept_is step.And (first ∷ second ∷ trees) = refl
kept_is step.Or [] = refl
kept_is step.Or (one ∷ []) = refl
kept_is step.Or (first ∷ second ∷ trees) = refl

exprs_are : (step : ExprStep) (trees : List Tree) → map expr_in (trees_with step trees) ≡ with_step step (map expr_in trees)
exprs_are step.Yes trees = refl
exprs_are step.No trees = refl
exprs_are (step.Same left right) trees = refl
exprs_are (step.Search text pattern) trees = refl
exprs_are (step.IpMatch text net) trees = refl
exprs_are step.Not [] = refl
exprs_are step.Not (tree ∷ trees) = refl
exprs_are step.And [] = refl
exprs_are step.And (one ∷ []) = refl
exprs_are step.And (first ∷ second ∷ trees) = refl
exprs_are step.Or [] = refl
exprs_are step.Or (one ∷ []) = refl
exprs_are step.Or (first ∷ second ∷ trees) = refl

-- The trees that steps leave on the stack.
record AreLeft (steps : List ExprStep) (before : List Tree) : Type 0 where
  trees : List Tree
  kept : kept_after steps (stack_at before) ≡ stack_at trees
  exprs : map expr_in trees ≡ trees_of steps (map expr_in before)

all_left : (steps : List ExprStep) (before : List Tree) → AreLeft steps before
all_left [] before = record { trees = before; kept = refl; exprs = refl }
all_left (step ∷ steps) before =
    let rest = all_left steps (trees_with step before) in
    record {
      trees = rest.trees;
      kept = ap (kept_after steps) (kept_is step before) ∙ rest.kept;
      exprs = rest.exprs ∙ ap (trees_of steps) (exprs_are step before);
    }

abbrev IsKept : List ExprStep → List Token → Type 0
IsKept steps tokens = tokens ≡ (kept_after steps (record { tokens = []; counts = [] })).tokens

some_first : (tree : Tree) (rest : List Token) → tokens_of tree rest ≡ [] → ⊥
some_first (leaf asked) rest is = let none = is in cc
some_first (opposite tree) rest is = let none = is in cc
some_first (joined decides first second) rest is = let none = is in cc

-- None are kept: the expression is `false`.
pub begins_none : (steps : List ExprStep) (kept later : List Kept) (one : Kept)
    → IsKept steps (map token_of (reverse kept)) → kept ≡ [] → later ≡ kept ++ one ∷ []
    → token_of one ≡ ask (always false) → BeginWith (expr_of steps) (map token_of (reverse later))
begins_none steps kept later one is none push so = by left.trees left.exprs
    (sym (ap (λ stack. stack.tokens) left.kept) ∙ sym is ∙ ap (λ kept. map token_of (reverse kept)) none)
  where
    left : AreLeft steps []
    left = all_left steps []

    tokens : map token_of (reverse later) ≡ ask (always false) ∷ []
    tokens = ap (λ later. map token_of (reverse later)) (push ∙ ap (λ front. front ++ one ∷ []) none)
        ∙ ap (λ token. token ∷ []) so

    by : (trees : List Tree) → map expr_in trees ≡ trees_of steps [] → all_tokens trees ≡ []
        → BeginWith (expr_of steps) (map token_of (reverse later))
    by [] exprs nothing = (leaf (always false), [], ap top_of exprs, tokens)
    by (tree ∷ trees) exprs nothing = absurd (some_first tree (all_tokens trees) nothing)

pub begins_some : (steps : List ExprStep) (kept : List Kept) → IsKept steps (map token_of (reverse kept))
    → (length kept ≡ 0 → ⊥) → BeginWith (expr_of steps) (map token_of (reverse kept))
begins_some steps kept is some = by left.trees left.exprs (is ∙ ap (λ stack. stack.tokens) left.kept)
  where
    left : AreLeft steps []
    left = all_left steps []

    by : (trees : List Tree) → map expr_in trees ≡ trees_of steps [] → map token_of (reverse kept) ≡ all_tokens trees
        → BeginWith (expr_of steps) (map token_of (reverse kept))
    by [] exprs tokens = absurd (some (sym (length-reverse kept)
        ∙ sym (length-map (reverse kept) token_of) ∙ ap length tokens))
    by (tree ∷ trees) exprs tokens = (tree, all_tokens trees, ap top_of exprs, tokens)
