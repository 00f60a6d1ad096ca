-- The steps of a tree are read as it is.
use Rattle.hc_expr.proofs.Common.{◌≡◌, ℕ, true, false, List, [], ◌∷◌, ◌++◌, refl, sym, ap, ◌∙◌}
use Rattle.hc_expr.proofs.Common.{Token}
use Rattle.std.proofs.Common.{Bool, Result, Ok, Err, arith}
use Rattle.std.proofs.lemmas.Bool.{false_from_ne_true, lt-ltb, ltb-false, ltb-true}
use Rattle.std.specs.Prelude.{nat_lt}
use Rattle.hc_base.specs.declared.fault.AtByte.{AtByte}
use Rattle.hc_model.specs.Steps.{top_of, trees_of, with_step}
use Rattle.hc_model.specs.declared.expression.Expr.{Expr}
use Rattle.hc_model.specs.declared.expression.Expr.TheVariants as expr
use Rattle.hc_model.specs.declared.expression.ExprStep.{ExprStep}
use Rattle.hc_model.specs.declared.expression.ExprStep.TheVariants as step
use Rattle.hc_pattern.specs.Reading.{parse_pattern}
use Rattle.hc_expr.proofs.Grammatical.{back_steps, emitted_of, has_tree, tree_is}
use Rattle.hc_expr.specs.Emitted.{Step, all_emitted, tree_of}
use Rattle.hc_expr.specs.Grammar.{Tree, both, either, leaf, negated}
use Rattle.hc_expr.specs.Reading.{constant, expression_of, lesser, made_of_one, made_of_two, negated_where, network_of}
use Rattle.hc_expr.specs.Reading.{operand_of, test_read, tree_read}
use Rattle.hc_expr.specs.Steps.{Trees, constant_step, is_negated, step_read, stepped, steps_read, trees_read, with_test}
use Rattle.hc_expr.specs.Syntax.{is_expression}
use Rattle.hc_expr.specs.Tokens.{Test, always, network, same, search}

-- ---- one step more

pub trees_more : (steps : List ExprStep) (step : ExprStep) (trees : List Expr)
    → trees_of (steps ++ step ∷ []) trees ≡ with_step step (trees_of steps trees)
trees_more [] step trees = refl
trees_more (first ∷ steps) step trees = trees_more steps step (with_step first trees)

-- ---- what the steps of a tree are read as

abbrev on : Result Expr AtByte → Trees → Trees
on tree trees = made_of_two (λ tree more. tree ∷ more) tree trees

tests_same : {A B : Type 0} (make : A → B → ExprStep) (tree : A → B → Expr) (a : Result A AtByte)
    (b : Result B AtByte) (trees : Trees) (negated : Bool)
    → ((x : A) (y : B) (more : List Expr) → with_step (make x y) more ≡ tree x y ∷ more)
    → with_test negated (made_of_two make a b) trees ≡ on (negated_where negated (made_of_two tree a b)) trees
tests_same make tree (Ok a) (Ok b) (Ok trees) true is = ap (λ l. Ok (with_step step.Not l)) (is a b trees)
tests_same make tree (Ok a) (Ok b) (Ok trees) false is = ap Ok (is a b trees)
tests_same make tree (Ok a) (Ok b) (Err why) true is = refl
tests_same make tree (Ok a) (Ok b) (Err why) false is = refl
tests_same make tree (Ok a) (Err why) trees true is = refl
tests_same make tree (Ok a) (Err why) trees false is = refl
tests_same make tree (Err why) (Ok b) trees true is = refl
tests_same make tree (Err why) (Ok b) trees false is = refl
tests_same make tree (Err first) (Err second) trees true is = refl
tests_same make tree (Err first) (Err second) trees false is = refl

constant_tree : (value : Bool) (trees : Trees)
    → with_test false (Ok (constant_step value)) trees ≡ on (Ok (constant value)) trees
constant_tree true (Ok trees) = refl
constant_tree true (Err why) = refl
constant_tree false (Ok trees) = refl
constant_tree false (Err why) = refl

test_tree : (t : Test) (trees : Trees) → with_test (is_negated t) (step_read t) trees ≡ on (test_read t) trees
test_tree (always value) trees = constant_tree value trees
test_tree (same differs left right) trees =
    tests_same step.Same expr.Same (operand_of left) (operand_of right) trees differs (λ x y more. refl)
test_tree (search differs left pattern nocase) trees =
    tests_same step.Search expr.Search (operand_of left) (parse_pattern pattern nocase) trees differs
    (λ x y more. refl)
test_tree (network left text) trees =
    tests_same step.IpMatch expr.IpMatch (operand_of left) (network_of text) trees false (λ x y more. refl)

-- Of three refusals the smallest counts, and of equal ones the first.
lesser_second : (a b : AtByte) → nat_lt b.code a.code ≡ true → lesser a b ≡ b
lesser_second a b is = rw is refl

lesser_first : (a b : AtByte) → nat_lt b.code a.code ≡ false → lesser a b ≡ a
lesser_first a b isnt = rw isnt refl

below : (a b c : ℕ) → nat_lt b a ≡ true → nat_lt c b ≡ true → nat_lt c a ≡ true
below a b c first second = lt-ltb c a (omega (arith, ltb-true b a first, ltb-true c b second))

not_below : (a b c : ℕ) → nat_lt b a ≡ false → nat_lt c b ≡ false → nat_lt c a ≡ false
not_below a b c first second =
    false_from_ne_true (nat_lt c a)
    (λ is. absurd (omega (arith, ltb-true c a is, ltb-false b a first, ltb-false c b second)))

lesser_of_three : (a b c : AtByte) → lesser a (lesser b c) ≡ lesser (lesser a b) c
lesser_of_three a b c = by_codes (nat_lt b.code a.code) (nat_lt c.code b.code) refl refl
  where
    by_codes : (first second : Bool) → nat_lt b.code a.code ≡ first → nat_lt c.code b.code ≡ second
        → lesser a (lesser b c) ≡ lesser (lesser a b) c
    by_codes true true p q =
        ap (lesser a) (lesser_second b c q) ∙ lesser_second a c (below a.code b.code c.code p q)
        ∙ sym (ap (λ l. lesser l c) (lesser_second a b p) ∙ lesser_second b c q)
    by_codes true false p q =
        ap (lesser a) (lesser_first b c q) ∙ lesser_second a b p
        ∙ sym (ap (λ l. lesser l c) (lesser_second a b p) ∙ lesser_first b c q)
    by_codes false true p q = ap (lesser a) (lesser_second b c q) ∙ sym (ap (λ l. lesser l c) (lesser_first a b p))
    by_codes false false p q =
        ap (lesser a) (lesser_first b c q) ∙ lesser_first a b p
        ∙ sym (ap (λ l. lesser l c) (lesser_first a b p) ∙ lesser_first a c (not_below a.code b.code c.code p q))

not_tree : (tree : Result Expr AtByte) (trees : Trees)
    → stepped step.Not (on tree trees) ≡ on (made_of_one expr.Not tree) trees
not_tree (Ok tree) (Ok trees) = refl
not_tree (Ok tree) (Err why) = refl
not_tree (Err why) (Ok trees) = refl
not_tree (Err why) (Err other) = refl

joined_tree : (step : ExprStep) (join : Expr → Expr → Expr) (first second : Result Expr AtByte) (trees : Trees)
    → ((a b : Expr) (more : List Expr) → with_step step (a ∷ b ∷ more) ≡ join a b ∷ more)
    → stepped step (on first (on second trees)) ≡ on (made_of_two join first second) trees
joined_tree step join (Ok a) (Ok b) (Ok trees) is = ap Ok (is a b trees)
joined_tree step join (Ok a) (Ok b) (Err why) is = refl
joined_tree step join (Ok a) (Err why) (Ok trees) is = refl
joined_tree step join (Ok a) (Err why) (Err other) is = refl
joined_tree step join (Err why) (Ok b) (Ok trees) is = refl
joined_tree step join (Err why) (Ok b) (Err other) is = refl
joined_tree step join (Err first) (Err second) (Ok trees) is = refl
joined_tree step join (Err first) (Err second) (Err third) is = ap Err (lesser_of_three first second third)

tree_as_steps : (tree : Tree) (steps : List Step)
    → trees_read (back_steps tree steps) ≡ on (tree_read tree) (trees_read steps)
tree_as_steps (leaf t) steps = test_tree t (trees_read steps)
tree_as_steps (negated tree) steps =
    ap (stepped step.Not) (tree_as_steps tree steps) ∙ not_tree (tree_read tree) (trees_read steps)
tree_as_steps (both first second) steps =
    ap (stepped step.And)
    (tree_as_steps first (back_steps second steps) ∙ ap (on (tree_read first)) (tree_as_steps second steps))
    ∙ joined_tree step.And expr.And (tree_read first) (tree_read second) (trees_read steps) (λ a b more. refl)
tree_as_steps (either first second) steps =
    ap (stepped step.Or)
    (tree_as_steps first (back_steps second steps) ∙ ap (on (tree_read first)) (tree_as_steps second steps))
    ∙ joined_tree step.Or expr.Or (tree_read first) (tree_read second) (trees_read steps) (λ a b more. refl)

-- ---- the whole

alone : (tree : Result Expr AtByte) → made_of_one top_of (on tree (Ok [])) ≡ tree
alone (Ok tree) = refl
alone (Err why) = refl

pub read_whole : (tokens : List Token) → is_expression 0 true tokens ≡ true
    → steps_read (all_emitted tokens) ≡ expression_of (tree_of tokens)
read_whole tokens is =
    let found = has_tree tokens is in
    ap steps_read (emitted_of found.1) ∙ ap (made_of_one top_of) (tree_as_steps found.0 [])
    ∙ alone (tree_read found.0)
    ∙ ap expression_of (sym (tree_is found.1))
