-- The tokens of a tree make its forks.
use Rattle.std.proofs.Common.{◌≡◌, ◌∙◌, List, [], ◌∷◌, ◌++◌, refl, sym, ap, append_assoc, append-nil}
use Rattle.std.proofs.lemmas.List.{map-append}
use Rattle.hc_model.specs.declared.expression.Expr.{Expr}
use Rattle.hc_abs_view.specs.Tokens.{BeginWith, Token, made_after, tokens_of}
use Rattle.hc_abs_view.specs.Trees.{AddsForks, AreBefore, Fork, Tree, expr_in, forks_before, forks_of, joined, lead_before}
use Rattle.hc_abs_view.specs.Trees.{lead_of_first, leaf, leaves, opposed, opposite}
use Rattle.hc_abs_view.specs.declared.jump.Lead.{Lead}

made_all : (tree : Tree) (rest : List Token) (lead : Lead) (leads : List Lead) (forks : List Fork)
    → made_after (tokens_of tree rest) (lead ∷ leads) forks ≡ made_after rest leads (forks ++ forks_of tree lead)
made_all (leaf asked) rest lead leads forks = refl
made_all (opposite tree) rest lead leads forks = made_all tree rest (opposed lead) leads forks
made_all (joined decides first second) rest lead leads forks =
    let lead_first = lead_of_first decides (leaves second) lead in
    made_all first (tokens_of second rest) lead_first (lead ∷ leads) forks
    ∙ made_all second rest lead leads (forks ++ forks_of first lead_first)
    ∙ ap (made_after rest leads) (append_assoc forks (forks_of first lead_first) (forks_of second lead))

made_none : (rest : List Token) (forks : List Fork) → made_after rest [] forks ≡ forks
made_none [] forks = refl
made_none (token ∷ rest) forks = refl

pub adds_forks : (expr : Expr) (lead : Lead) (tokens : List Token) (before after : List Fork) → BeginWith expr tokens
    → after ≡ made_after tokens (lead ∷ []) before → AddsForks expr lead before after
adds_forks expr lead tokens before after begin is = (
  begin.0,
  begin.2,
  is ∙ ap (λ tokens. made_after tokens (lead ∷ []) before) begin.3 ∙ made_all begin.0 begin.1 lead [] before
      ∙ made_none begin.1 (before ++ forks_of begin.0 lead),
)

-- ---- chains

before_more : (trees : List Tree) (tree : Tree)
    → forks_before (trees ++ tree ∷ []) ≡ forks_before trees ++ forks_of tree lead_before
before_more [] tree = append-nil (forks_of tree lead_before)
before_more (first ∷ trees) tree =
    ap (λ rest. forks_of first lead_before ++ rest) (before_more trees tree)
    ∙ sym (append_assoc (forks_of first lead_before) (forks_before trees) (forks_of tree lead_before))

pub one_before : (chain more : List Expr) (expr : Expr) (before after : List Fork) → more ≡ chain ++ expr ∷ []
    → AreBefore chain before → AddsForks expr lead_before before after → AreBefore more after
one_before chain more expr before after is are adds = (
  are.0 ++ adds.0 ∷ [],
  map-append expr_in are.0 (adds.0 ∷ []) ∙ ap (λ front. front ++ expr_in adds.0 ∷ []) are.1
      ∙ ap (λ last. chain ++ last ∷ []) adds.1 ∙ sym is,
  adds.2 ∙ ap (λ front. front ++ forks_of adds.0 lead_before) are.2 ∙ sym (before_more are.0 adds.0),
)
