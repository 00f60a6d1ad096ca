-- The steps of an expression that take their parts, the last first: what joins stands before its first part, and that
-- before the second.
use Rattle.std.specs.Prelude.{◌≡◌, ℕ, ◌+◌, List, [], ◌∷◌, ◌++◌, map, reverse, Bool, true, false}
use Rattle.hc_model.specs.declared.expression.Expr.{Expr}
use Rattle.hc_model.specs.declared.expression.ExprStep.{ExprStep}
use Rattle.hc_model.specs.declared.expression.ExprStep.TheVariants as step
use Rattle.hc_abs_view.specs.Trees.{Asked, Fork, Tree, always, expr_in, fork_at, joined, lead_of_first, leaf, leaves}
use Rattle.hc_abs_view.specs.Trees.{opposed, opposite, same, search, within}
use Rattle.hc_abs_view.specs.declared.jump.Jump.{Jump}
use Rattle.hc_abs_view.specs.declared.jump.Lead.{Lead}
use Rattle.hc_abs_view.specs.declared.jump.Leaf.{Leaf}
use Rattle.hc_abs_view.specs.declared.jump.Leaf.TheVariants as part
use Rattle.hc_abs_view.specs.declared.kept.Kept.{Kept}
use Rattle.hc_abs_view.specs.declared.kept.Kept.TheVariants as kept

-- What joins knows how many leaves its second part has.
pub data Token : Type 0 where
  ask : Asked → Token
  invert : Token
  join : Bool → ℕ → Token

abbrev pub tokens_of : Tree → List Token → List Token
tokens_of (leaf asked) rest = ask asked ∷ rest
tokens_of (opposite tree) rest = invert ∷ tokens_of tree rest
tokens_of (joined decides first second) rest =
    join decides (leaves second) ∷ tokens_of first (tokens_of second rest)

abbrev pub all_tokens : List Tree → List Token
all_tokens [] = []
all_tokens (tree ∷ trees) = tokens_of tree (all_tokens trees)

-- ---- as code has them

abbrev pub asked_of : Leaf → Asked
asked_of (part.Always is) = always is
asked_of (part.Same left right) = same left.now right.now
asked_of (part.Search text pattern) = search text.now pattern.now
asked_of (part.Within text net) = within text.now net

abbrev pub fork_of : Jump → Fork
fork_of jump = fork_at (asked_of jump.leaf) jump.lead

abbrev pub token_of : Kept → Token
token_of (kept.Leaf one) = ask (asked_of one)
token_of kept.Not = invert
token_of (kept.Joins decides second) = join decides second

-- ---- the steps that are kept

-- The tokens of the trees on the stack, and how many leaves each of them has, the last first.
pub record Stack : Type 0 where
  pub tokens : List Token
  pub counts : List ℕ

abbrev pub stack_of : List Kept → List ℕ → Stack
stack_of kept counts = record { tokens = map token_of (reverse kept); counts = reverse counts }

abbrev pub with_leaf : Asked → Stack → Stack
with_leaf asked stack = record { tokens = ask asked ∷ stack.tokens; counts = 1 ∷ stack.counts }

-- Where parts are missing, nothing is kept.
abbrev pub inverted : List Token → List ℕ → Stack
inverted tokens [] = record { tokens = tokens; counts = [] }
inverted tokens (count ∷ counts) = record { tokens = invert ∷ tokens; counts = count ∷ counts }

abbrev pub joined_by : Bool → List Token → List ℕ → Stack
joined_by decides tokens (first ∷ second ∷ counts) =
    record { tokens = join decides second ∷ tokens; counts = (first + second) ∷ counts }
joined_by decides tokens counts = record { tokens = tokens; counts = counts }

abbrev pub with_kept : ExprStep → Stack → Stack
with_kept step.Yes stack = with_leaf (always true) stack
with_kept step.No stack = with_leaf (always false) stack
with_kept (step.Same left right) stack = with_leaf (same left right) stack
with_kept (step.Search text pattern) stack = with_leaf (search text pattern) stack
with_kept (step.IpMatch text net) stack = with_leaf (within text net) stack
with_kept step.Not stack = inverted stack.tokens stack.counts
with_kept step.And stack = joined_by false stack.tokens stack.counts
with_kept step.Or stack = joined_by true stack.tokens stack.counts

abbrev pub kept_after : List ExprStep → Stack → Stack
kept_after [] stack = stack
kept_after (step ∷ steps) stack = kept_after steps (with_kept step stack)

-- The tokens begin with a tree of this expression.
abbrev pub BeginWith : Expr → List Token → Type 0
BeginWith expr tokens = (tree : Tree) × (rest : List Token) × (expr_in tree ≡ expr) × (tokens ≡ tokens_of tree rest)

-- ---- forks that are made of tokens

-- Where the trees lead that are still to be read, and the forks so far.
pub record Made : Type 0 where
  pub leads : List Lead
  pub forks : List Fork

abbrev pub made_of : List Lead → List Jump → Made
made_of leads jumps = record { leads = reverse leads; forks = map fork_of jumps }

abbrev pub with_token : Token → Lead → Made → Made
with_token (ask asked) lead made = record { leads = made.leads; forks = made.forks ++ fork_at asked lead ∷ [] }
with_token invert lead made = record { leads = opposed lead ∷ made.leads; forks = made.forks }
with_token (join decides second) lead made =
    record { leads = lead_of_first decides second lead ∷ lead ∷ made.leads; forks = made.forks }

abbrev pub made_after : List Token → List Lead → List Fork → List Fork
made_after [] leads forks = forks
made_after (token ∷ tokens) [] forks = forks
made_after (token ∷ tokens) (lead ∷ leads) forks =
    let made = with_token token lead (record { leads = leads; forks = forks }) in made_after tokens made.leads made.forks
