-- An expression as a list of forks: its tests in the order in which they are made, and where each of them leads.
use Rattle.std.specs.Prelude.{◌≡◌, ℕ, ◌+◌, List, [], ◌∷◌, ◌++◌, map, Bool, true, false, not}
use Rattle.hc_addr.specs.declared.net.Net.{Net}
use Rattle.hc_model.specs.declared.expression.Expr.{Expr}
use Rattle.hc_model.specs.declared.expression.Expr.TheVariants as expr
use Rattle.hc_model.specs.declared.template.Piece.{Piece}
use Rattle.hc_pattern.specs.Pattern.{Pattern}
use Rattle.hc_rw_eval.specs.Conditions.{counted}
use Rattle.hc_abs_view.specs.declared.jump.Lead.{Lead}
use Rattle.hc_abs_view.specs.declared.jump.Target.{Target}
use Rattle.hc_abs_view.specs.declared.jump.Target.TheVariants.{Behind, Over}

-- What is asked of a request: nothing, whether two texts are equal, whether a pattern is found in a text, or whether
-- it is an address of a network.
pub data Asked : Type 0 where
  always : Bool → Asked
  same : List Piece → List Piece → Asked
  search : List Piece → Pattern → Asked
  within : List Piece → Net → Asked

-- What is asked and joined: by `||` the first part decides where it holds, by `&&` where it doesn't.
pub data Tree : Type 0 where
  leaf : Asked → Tree
  opposite : Tree → Tree
  joined : Bool → Tree → Tree → Tree

abbrev pub asked_expr : Asked → Expr
asked_expr (always true) = expr.Yes
asked_expr (always false) = expr.No
asked_expr (same left right) = expr.Same left right
asked_expr (search text pattern) = expr.Search text pattern
asked_expr (within text net) = expr.IpMatch text net

abbrev pub joined_expr : Bool → Expr → Expr → Expr
joined_expr true first second = expr.Or first second
joined_expr false first second = expr.And first second

abbrev pub expr_in : Tree → Expr
expr_in (leaf asked) = asked_expr asked
expr_in (opposite tree) = expr.Not (expr_in tree)
expr_in (joined decides first second) = joined_expr decides (expr_in first) (expr_in second)

abbrev pub leaves : Tree → ℕ
leaves (leaf asked) = 1
leaves (opposite tree) = leaves tree
leaves (joined decides first second) = leaves first + leaves second

-- ---- forks

-- What is asked, whether it counts as its opposite, and where it leads.
pub record Fork : Type 0 where
  pub asked : Asked
  pub lead : Lead

abbrev pub fork_at : Asked → Lead → Fork
fork_at asked lead = record { asked = asked; lead = lead }

abbrev pub lead_by : Bool → Target → Target → Lead
lead_by negated held failed = record { negated = negated; yes = held; no = failed }

-- Behind so many forks more.
abbrev pub further : ℕ → Target → Target
further count (Over is) = Over is
further count (Behind more) = Behind (count + more)

abbrev pub opposed : Lead → Lead
opposed lead = lead_by (not lead.negated) lead.yes lead.no

-- The first part leads to the second where it doesn't decide.
abbrev pub first_lead : Bool → ℕ → Lead → Lead
first_lead true count lead = lead_by lead.negated (further count lead.yes) (Behind 0)
first_lead false count lead = lead_by lead.negated (Behind 0) (further count lead.no)

abbrev pub lead_of_first : Bool → ℕ → Lead → Lead
lead_of_first decides count lead = first_lead (counted lead.negated decides) count lead

abbrev pub forks_of : Tree → Lead → List Fork
forks_of (leaf asked) lead = fork_at asked lead ∷ []
forks_of (opposite tree) lead = forks_of tree (opposed lead)
forks_of (joined decides first second) lead =
    forks_of first (lead_of_first decides (leaves second) lead) ++ forks_of second lead

-- ---- chains

-- None of those before may hold, and the last one decides.
abbrev pub lead_before : Lead
lead_before = lead_by true (Behind 0) (Over false)

abbrev pub lead_last : Lead
lead_last = lead_by false (Over true) (Over false)

abbrev pub forks_before : List Tree → List Fork
forks_before [] = []
forks_before (tree ∷ trees) = forks_of tree lead_before ++ forks_before trees

-- ---- what code finds

-- The forks of the expression are added.
abbrev pub AddsForks : Expr → Lead → List Fork → List Fork → Type 0
AddsForks expr lead before after = (tree : Tree) × (expr_in tree ≡ expr) × (after ≡ before ++ forks_of tree lead)

abbrev pub AreBefore : List Expr → List Fork → Type 0
AreBefore chain forks = (trees : List Tree) × (map expr_in trees ≡ chain) × (forks ≡ forks_before trees)

-- These are the forks of an expression behind a chain of others.
abbrev pub AreForks : List Expr → Expr → List Fork → Type 0
AreForks chain expr forks = (before : List Fork) × AreBefore chain before × AddsForks expr lead_last before forks
