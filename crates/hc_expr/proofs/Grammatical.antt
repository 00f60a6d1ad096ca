-- The steps that tokens make are those of their tree by the grammar, and tokens that make none have no tree.
use Rattle.hc_expr.proofs.Common.{◌≡◌, ℕ, zero, suc, ◌+◌, true, false, List, [], ◌∷◌, refl, sym, ap}
use Rattle.hc_expr.proofs.Common.{◌∙◌, true≢false, arith, Token, closes}
use Rattle.std.proofs.Common.{Bool, Some, ◌||◌, subst}
use Rattle.std.specs.Prelude.{slice_get}
use Rattle.std.specs.Option.{unwrap_or}
use Rattle.hc_expr.specs.Emitted.{Output, Step, all_emitted, inverted, inverts, is_conjunction}
use Rattle.hc_expr.specs.Emitted.{joined, joins_both, joins_either, nothing_there, opened_in, output_after, tested}
use Rattle.hc_expr.specs.Emitted.{tree_of, trees_of, with_emitted, with_tree}
use Rattle.hc_expr.specs.Grammar.{Form, IsOnlyTree, IsTree, Reads, Tree, both, conjunction, disjunction, either, leaf}
use Rattle.hc_expr.specs.Grammar.{negated, negation, operand}
use Rattle.hc_expr.specs.Grammar.Reads.{a_test, and_more, in_parentheses, not_operand, one_conjunction, one_operand}
use Rattle.hc_expr.specs.Grammar.Reads.{or_more}
use Rattle.hc_expr.specs.Syntax.{is_expression}
use Rattle.hc_expr.specs.Tokens.{ands, negates, opens, ors, test}
use Rattle.hc_expr.specs.declared.build.Level.{Level}

-- ---- the steps of a tree, the last first

abbrev pub back_steps : Tree → List Step → List Step
back_steps (leaf t) steps = tested t ∷ steps
back_steps (negated tree) steps = inverts ∷ back_steps tree steps
back_steps (both first more) steps = joins_both ∷ back_steps first (back_steps more steps)
back_steps (either first more) steps = joins_either ∷ back_steps first (back_steps more steps)

steps_inverted : (tree : Tree) (steps : List Step)
    → inverted (back_steps tree steps) ≡ back_steps (negation tree) steps
steps_inverted (leaf t) steps = refl
steps_inverted (negated tree) steps = refl
steps_inverted (both first more) steps = refl
steps_inverted (either first more) steps = refl

trees_back : (tree : Tree) (steps : List Step) → trees_of (back_steps tree steps) ≡ tree ∷ trees_of steps
trees_back (leaf t) steps = refl
trees_back (negated tree) steps = ap (with_tree inverts) (trees_back tree steps)
trees_back (both first more) steps =
    ap (with_tree joins_both)
    (trees_back first (back_steps more steps) ∙ ap (λ trees. first ∷ trees) (trees_back more steps))
trees_back (either first more) steps =
    ap (with_tree joins_either)
    (trees_back first (back_steps more steps) ∙ ap (λ trees. first ∷ trees) (trees_back more steps))

-- ---- the steps of a form

-- What was read of a form becomes one part.
abbrev joined_by_and : Output → Output
joined_by_and o = record o {
  inner = record o.inner { last = is_conjunction o.inner; conjunction = false };
  steps = joined joins_both o.inner.last o.inner.conjunction o.steps;
}

abbrev joined_by_or : Output → Output
joined_by_or o = record o {
  inner = record nothing_there { last = o.inner.last || o.inner.disjunction };
  steps = joined joins_either o.inner.last o.inner.disjunction o.steps;
}

abbrev whole : Form → Output → Output
whole operand o = o
whole conjunction o = joined_by_and o
whole disjunction o = joined_by_or (joined_by_and o)

-- A part before what stands behind it, and the place before `&&` and before `||`.
abbrev with_part : Tree → Output → Output
with_part tree o = record o { inner = record o.inner { last = true }; steps = back_steps tree o.steps }

abbrev before_and : Output → Output
before_and o = record o { inner = record o.inner { last = false; conjunction = o.inner.last } }

abbrev before_or : Output → Output
before_or o = record o { inner = record nothing_there { disjunction = o.inner.last } }

-- Nothing of the form stands behind it.
abbrev IsClear : Form → Level → Type 0
IsClear operand level = level.last ≡ false
IsClear conjunction level = (level.last ≡ false) × (level.conjunction ≡ false)
IsClear disjunction level = level ≡ nothing_there

first_and : (level : Level) → level ≡ nothing_there → IsClear conjunction level
first_and level clear = (ap (λ l. l.last) clear, ap (λ l. l.conjunction) clear)

and_alone : (tree : Tree) (o : Output) → o.inner.conjunction ≡ false
    → joined_by_and (with_part tree o) ≡ with_part tree o
and_alone tree o clear = rw clear refl

and_joined : (first more : Tree) (o : Output) → o.inner.conjunction ≡ false
    → joined_by_and (with_part first (before_and (with_part more o))) ≡ with_part (both first more) o
and_joined first more o clear = rw clear refl

or_alone : (tree : Tree) (o : Output) → o.inner ≡ nothing_there
    → joined_by_or (with_part tree o) ≡ with_part tree o
or_alone tree o clear = rw clear refl

or_joined : (first more : Tree) (o : Output) → o.inner ≡ nothing_there
    → joined_by_or (with_part first (before_or (with_part more o))) ≡ with_part (either first more) o
or_joined first more o clear = rw clear refl

emits : {form : Form} {tokens rest : List Token} {tree : Tree} → Reads form tokens tree rest
    → IsClear form (output_after rest).inner
    → whole form (output_after tokens) ≡ with_part tree (output_after rest)
emits a_test clear = refl
emits (not_operand {rest = rest} {tree = tree} d) clear =
    ap (with_emitted negates) (emits d clear)
    ∙ ap (λ steps. record (with_part tree (output_after rest)) { steps = steps })
    (steps_inverted tree (output_after rest).steps)
emits (in_parentheses d) clear = ap (λ o. opened_in o.inner.last o.outer o.steps) (emits d refl)
emits (one_operand {rest = rest} {tree = tree} d) clear =
    ap joined_by_and (emits d clear.0) ∙ and_alone tree (output_after rest) clear.1
emits (and_more {rest = rest} {first = first} {more = more} d e) clear =
    ap joined_by_and (emits d refl ∙ ap (λ o. with_part first (before_and o)) (emits e clear))
    ∙ and_joined first more (output_after rest) clear.1
emits (one_conjunction {rest = rest} {tree = tree} d) clear =
    ap joined_by_or (emits d (first_and _ clear)) ∙ or_alone tree (output_after rest) clear
emits (or_more {rest = rest} {first = first} {more = more} d e) clear =
    ap joined_by_or (emits d (refl, refl) ∙ ap (λ o. with_part first (before_or o)) (emits e clear))
    ∙ or_joined first more (output_after rest) clear

pub emitted_of : {tokens : List Token} {tree : Tree} → IsTree tree tokens
    → all_emitted tokens ≡ back_steps tree []
emitted_of d = ap (λ o. o.steps) (emits d refl)

-- ---- what has a tree is an expression

one_more : (depth : ℕ) → depth + 1 ≡ suc depth
one_more depth = omega arith

closes_one : (depth : ℕ) (rest : List Token)
    → is_expression (depth + 1) false (closes ∷ rest) ≡ is_expression depth false rest
closes_one depth rest = ap (λ open_now. is_expression open_now false (closes ∷ rest)) (one_more depth)

accepts : {form : Form} {tokens rest : List Token} {tree : Tree} → Reads form tokens tree rest → (depth : ℕ)
    → is_expression depth true tokens ≡ is_expression depth false rest
accepts a_test depth = refl
accepts (not_operand d) depth = accepts d depth
accepts (in_parentheses {rest = rest} d) depth = accepts d (depth + 1) ∙ closes_one depth rest
accepts (one_operand d) depth = accepts d depth
accepts (and_more d e) depth = accepts d depth ∙ accepts e depth
accepts (one_conjunction d) depth = accepts d depth
accepts (or_more d e) depth = accepts d depth ∙ accepts e depth

pub tree_is : {tokens : List Token} {tree : Tree} → IsTree tree tokens → tree_of tokens ≡ Some tree
tree_is {tokens} {tree} d =
    let is : is_expression 0 true tokens ≡ true = accepts d 0 in
    rw is (ap (λ trees. slice_get trees 0) (ap trees_of (emitted_of d) ∙ trees_back tree []))

-- ---- and an expression has one

-- What stands behind an operand, so many parentheses being open; and behind a whole disjunction.
data Behind : ℕ → List Token → Type 0 where
  at_end : Behind zero []
  at_close : {depth : ℕ} {rest : List Token} → Behind depth rest → Behind (suc depth) (closes ∷ rest)
  at_and : {depth : ℕ} {tokens rest : List Token} {tree : Tree} → Reads operand tokens tree rest
      → Behind depth rest → Behind depth (ands ∷ tokens)
  at_or : {depth : ℕ} {tokens rest : List Token} {tree : Tree} → Reads operand tokens tree rest
      → Behind depth rest → Behind depth (ors ∷ tokens)

data Ends : ℕ → List Token → Type 0 where
  at_all : Ends zero []
  at_inner : {depth : ℕ} {rest : List Token} → Behind depth rest → Ends (suc depth) (closes ∷ rest)

abbrev Starts : Form → (ℕ → List Token → Type 0) → ℕ → List Token → Type 0
Starts form After depth tokens = (tree : Tree) × (rest : List Token) × Reads form tokens tree rest × After depth rest

abbrev Stands : ℕ → Bool → List Token → Type 0
Stands depth true tokens = Starts operand Behind depth tokens
Stands depth false tokens = Behind depth tokens

before_more : {tokens behind rest : List Token} {first more : Tree} → Reads operand tokens first (ands ∷ behind)
    → Reads disjunction behind more rest
    → (tree : Tree) × Reads disjunction tokens tree rest
before_more d (one_conjunction e) = (_, one_conjunction (and_more d e))
before_more d (or_more e f) = (_, or_more (and_more d e) f)

grouped : {tokens rest : List Token} {tree : Tree} {depth : ℕ} → Reads operand tokens tree rest
    → Behind depth rest → Starts disjunction Ends depth tokens
grouped d at_end = (_, _, one_conjunction (one_operand d), at_all)
grouped d (at_close b) = (_, _, one_conjunction (one_operand d), at_inner b)
grouped d (at_and e b) = let g = grouped e b in let all = before_more d g.2 in (all.0, g.1, all.1, g.3)
grouped d (at_or e b) = let g = grouped e b in (_, g.1, or_more (one_operand d) g.2, g.3)

enclosed : {tokens rest : List Token} {tree : Tree} {depth : ℕ} → Reads disjunction tokens tree rest
    → Ends (suc depth) rest → Starts operand Behind depth (opens ∷ tokens)
enclosed d (at_inner b) = (_, _, in_parentheses d, b)

stands : (depth : ℕ) (awaited : Bool) (tokens : List Token) → is_expression depth awaited tokens ≡ true
    → Stands depth awaited tokens
stands depth true (opens ∷ tokens) is =
    let s = stands (depth + 1) true tokens is in let g = grouped s.2 s.3 in enclosed g.2
    (subst (λ open_now. Ends open_now g.1) (one_more depth) g.3)
stands depth true (negates ∷ tokens) is = let s = stands depth true tokens is in (_, s.1, not_operand s.2, s.3)
stands depth true (test t ∷ tokens) is = (leaf t, tokens, a_test, stands depth false tokens is)
stands (suc depth) false (closes ∷ tokens) is = at_close (stands depth false tokens is)
stands depth false (ands ∷ tokens) is = let s = stands depth true tokens is in at_and s.2 s.3
stands depth false (ors ∷ tokens) is = let s = stands depth true tokens is in at_or s.2 s.3
stands zero false [] is = at_end
stands depth awaited tokens isnt = absurd (true≢false (sym isnt))

to_the_end : {tokens rest : List Token} {tree : Tree} → Reads disjunction tokens tree rest → Ends zero rest
    → (tree : Tree) × IsTree tree tokens
to_the_end d at_all = (_, d)

pub has_tree : (tokens : List Token) → is_expression 0 true tokens ≡ true → (tree : Tree) × IsTree tree tokens
has_tree tokens is = let s = stands 0 true tokens is in let g = grouped s.2 s.3 in to_the_end g.2 g.3

-- ---- the law

pub only_tree : (tokens : List Token) → IsOnlyTree (tree_of tokens) tokens
only_tree tokens = by_syntax (is_expression 0 true tokens) refl
  where
    by_syntax : (is : Bool) → is_expression 0 true tokens ≡ is → IsOnlyTree (tree_of tokens) tokens
    by_syntax true is =
        let found = has_tree tokens is in
        subst (λ tree. IsOnlyTree tree tokens) (sym (tree_is found.1))
        (found.1, λ other d. ap (λ tree. unwrap_or tree found.0) (sym (tree_is d) ∙ tree_is found.1))
    by_syntax false isnt = rw isnt (λ other d. absurd (true≢false (sym (accepts d 0) ∙ isnt)))
