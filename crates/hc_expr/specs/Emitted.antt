-- The steps of an expression, as the code makes them: from the last token on. The last step comes first.
use Rattle.std.specs.Prelude.{List, [], ◌∷◌, Bool, true, false, ◌||◌, if◌then◌else◌, Option, None}
use Rattle.std.specs.List.{slice_get}
use Rattle.hc_expr.specs.Grammar.{Tree, both, either, leaf, negated}
use Rattle.hc_expr.specs.Syntax.{is_expression}
use Rattle.hc_expr.specs.Tokens.{Test, Token, ands, broken, closes, negates, opens, ors, test}
use Rattle.hc_expr.specs.declared.build.Level.{Level}

pub data Step : Type 0 where
  tested : Test → Step
  inverts : Step
  joins_both : Step
  joins_either : Step

-- Which parts of a level are there, and of those around it, the innermost first; and the steps of them all.
pub record Output : Type 0 where
  pub inner : Level
  pub outer : List Level
  pub steps : List Step

abbrev pub nothing_there : Level
nothing_there = record { last = false; conjunction = false; disjunction = false }

abbrev pub nothing_emitted : Output
nothing_emitted = record { inner = nothing_there; outer = []; steps = [] }

-- A step joins two parts, where both are there.
abbrev pub joined : Step → Bool → Bool → List Step → List Step
joined step true true steps = step ∷ steps
joined step true false steps = steps
joined step false second steps = steps

abbrev pub is_conjunction : Level → Bool
is_conjunction level = level.last || level.conjunction

abbrev pub is_whole : Level → Bool
is_whole level = is_conjunction level || level.disjunction

-- All that was read of a level becomes one part.
abbrev pub finished : Level → List Step → List Step
finished level steps =
    joined joins_either (is_conjunction level) level.disjunction (joined joins_both level.last level.conjunction steps)

-- Two `!` are none.
abbrev pub inverted : List Step → List Step
inverted (inverts ∷ steps) = steps
inverted steps = inverts ∷ steps

abbrev pub opened_in : Bool → List Level → List Step → Output
opened_in there [] steps = record { inner = record nothing_there { last = there }; outer = []; steps = steps }
opened_in there (level ∷ levels) steps =
    record { inner = record level { last = there }; outer = levels; steps = steps }

abbrev pub with_emitted : Token → Output → Output
with_emitted (test t) o = record o { inner = record o.inner { last = true }; steps = tested t ∷ o.steps }
with_emitted negates o = record o { steps = if o.inner.last then inverted o.steps else o.steps }
with_emitted ands o = record {
  inner = record o.inner { last = false; conjunction = is_conjunction o.inner };
  outer = o.outer;
  steps = joined joins_both o.inner.last o.inner.conjunction o.steps;
}
with_emitted ors o = record {
  inner = record nothing_there { disjunction = is_whole o.inner };
  outer = o.outer;
  steps = finished o.inner o.steps;
}
with_emitted closes o = record o { inner = nothing_there; outer = o.inner ∷ o.outer }
with_emitted opens o = opened_in (is_whole o.inner) o.outer (finished o.inner o.steps)
with_emitted broken o = o

abbrev pub output_after : List Token → Output
output_after [] = nothing_emitted
output_after (token ∷ tokens) = with_emitted token (output_after tokens)

abbrev pub all_emitted : List Token → List Step
all_emitted tokens = finished (output_after tokens).inner (output_after tokens).steps

-- ---- the tree that they stand for

abbrev pub with_tree : Step → List Tree → List Tree
with_tree (tested t) trees = leaf t ∷ trees
with_tree inverts (tree ∷ trees) = negated tree ∷ trees
with_tree joins_both (first ∷ second ∷ trees) = both first second ∷ trees
with_tree joins_either (first ∷ second ∷ trees) = either first second ∷ trees
with_tree missing trees = trees

abbrev pub trees_of : List Step → List Tree
trees_of [] = []
trees_of (step ∷ steps) = with_tree step (trees_of steps)

-- The tree of an expression (`Grammar.IsOnlyTree`).
abbrev pub tree_of : List Token → Option Tree
tree_of tokens = if is_expression 0 true tokens then slice_get (trees_of (all_emitted tokens)) 0 else None
