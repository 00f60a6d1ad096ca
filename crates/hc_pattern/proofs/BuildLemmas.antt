-- What is kept of a tree is made from what is kept of its parts.
use Rattle.hc_pattern.proofs.Common.{◌≡◌, ℕ, ◌+◌, ◌*◌, ◌<◌, ◌≤◌, Bool, true, false, ◌&&◌}
use Rattle.hc_pattern.proofs.Common.{◌||◌, List, [], ◌∷◌, ◌++◌, min, Option, Some, None}
use Rattle.hc_pattern.proofs.Common.{if◌then◌else◌, length, ◌==◌, refl, ap, ◌∙◌, ⊎_elim, nat_lt}
use Rattle.hc_pattern.proofs.Common.{le-ltb, ltb-false, arith, map, option_map, group_pattern, kept, turns_nodes}
use Rattle.hc_pattern.proofs.Common.{KnownLevel, KnownLevels, before_known, body_known, both_known, capped}
use Rattle.hc_pattern.proofs.Common.{counted_known, either_known, group_known, levels_known, new_known, nothing_known}
use Rattle.hc_pattern.proofs.Common.{outer_known, token_known, turns_known, whole_known, Pattern, cat, alt, repeat}
use Rattle.std.proofs.lemmas.Bool.{cases_lt}
use Rattle.std.proofs.Math.Nat.{mul-le-mul_left}
use Rattle.std.specs.Option.{option_or}
use Rattle.hc_pattern.specs.KnownParts.{first_place, known}
use Rattle.hc_pattern.specs.Syntax.{Level, Levels, Syntax, nothing, leaf, both, either, grouped, turns, before}
use Rattle.hc_pattern.specs.Syntax.{can_be_empty, counted, empty_loops, is_loop, levels_of, new_level, nodes, outer}
use Rattle.hc_pattern.specs.Syntax.{syntax_of, syntax_pattern, times, times_of, whole, with_body, with_token}
use Rattle.hc_pattern.specs.TokenViews.{placed_view}
use Rattle.hc_pattern.specs.declared.token.Placed.{Placed as PlacedOfBytes}
use Rattle.hc_pattern.specs.Tokens.{Count, Placed, Token, item, opens, closes, bars, counts, unclosed, broken}

first_append : (xs ys : List ℕ) → option_or (first_place xs) (first_place ys) ≡ first_place (xs ++ ys)
first_append [] ys = refl
first_append (x ∷ xs) ys = refl

-- ---- the pattern of what has too many nodes isn't kept

kept_all : (nodes : ℕ) (pattern : Pattern) → nodes ≤ 4096 → kept nodes pattern ≡ pattern
kept_all nodes pattern few = rw (le-ltb 4096 nodes few) refl

one_step : (f : Pattern → Pattern) (p : Pattern) (a n : ℕ) (v : Bool) → nat_lt 4096 n ≡ v
    → (n ≤ 4096 → a ≤ 4096) → kept n (f (kept a p)) ≡ kept n (f p)
one_step f p a n true is few = rw is refl
one_step f p a n false is few = ap (λ q. kept n (f q)) (kept_all a p (few (ltb-false 4096 n is)))

kept_one : (f : Pattern → Pattern) (p : Pattern) (a n : ℕ) → (n ≤ 4096 → a ≤ 4096)
    → kept n (f (kept a p)) ≡ kept n (f p)
kept_one f p a n few = one_step f p a n _ refl few

kept_two : (f : Pattern → Pattern → Pattern) (p q : Pattern) (a b n : ℕ) → (n ≤ 4096 → a ≤ 4096)
    → (n ≤ 4096 → b ≤ 4096) → kept n (f (kept a p) (kept b q)) ≡ kept n (f p q)
kept_two f p q a b n first second = kept_one (λ x. f x (kept b q)) p a n first ∙ kept_one (f p) q b n second

-- ---- what is kept

both_is : (a b : Syntax) → both_known (known a) (known b) ≡ known (both a b)
both_is a b =
    let e : capped (capped (nodes a) + capped (nodes b)) ≡ capped (nodes a + nodes b) = omega arith in
    let p = kept_two cat (syntax_pattern a) (syntax_pattern b) (capped (nodes a)) (capped (nodes b))
    (capped (capped (nodes a) + capped (nodes b))) (λ few. omega arith) (λ few. omega arith)
    ∙ ap (λ n. kept n (cat (syntax_pattern a) (syntax_pattern b))) e in
    let l = first_append (empty_loops a) (empty_loops b) in
    λ i. record {
      pattern = p i;
      nodes = e i;
      can_be_empty = can_be_empty a && can_be_empty b;
      looping = l i;
      is_nothing = false;
    }

either_is : (a b : Syntax) → either_known (known a) (known b) ≡ known (either a b)
either_is a b =
    let e : capped (1 + capped (nodes a) + capped (nodes b)) ≡ capped (1 + nodes a + nodes b) = omega arith in
    let p = kept_two alt (syntax_pattern a) (syntax_pattern b) (capped (nodes a)) (capped (nodes b))
    (capped (1 + capped (nodes a) + capped (nodes b))) (λ few. omega arith) (λ few. omega arith)
    ∙ ap (λ n. kept n (alt (syntax_pattern a) (syntax_pattern b))) e in
    let l = first_append (empty_loops a) (empty_loops b) in
    λ i. record {
      pattern = p i;
      nodes = e i;
      can_be_empty = can_be_empty a || can_be_empty b;
      looping = l i;
      is_nothing = false;
    }

group_step : (number : Option ℕ) (pattern : Pattern) (n m : ℕ) → n ≡ capped m
    → kept (capped (1 + n)) (group_pattern number (kept n pattern))
    ≡ kept (capped (1 + m)) (group_pattern number pattern)
group_step number pattern n m is =
    let e : capped (1 + n) ≡ capped (1 + m) = omega arith in
    kept_one (group_pattern number) pattern n (capped (1 + n)) (λ few. omega arith)
    ∙ ap (λ k. kept k (group_pattern number pattern)) e

group_is : (number : Option ℕ) (a : Syntax) → group_known number (known a) ≡ known (grouped number a)
group_is None a =
    let e : capped (1 + capped (nodes a)) ≡ capped (1 + nodes a) = omega arith in
    let p = group_step None (syntax_pattern a) (capped (nodes a)) (nodes a) refl in
    λ i. record {
      pattern = p i;
      nodes = e i;
      can_be_empty = can_be_empty a;
      looping = first_place (empty_loops a);
      is_nothing = false;
    }
group_is (Some number) a =
    let e : capped (1 + capped (nodes a)) ≡ capped (1 + nodes a) = omega arith in
    let p = group_step (Some number) (syntax_pattern a) (capped (nodes a)) (nodes a) refl in
    λ i. record {
      pattern = p i;
      nodes = e i;
      can_be_empty = can_be_empty a;
      looping = first_place (empty_loops a);
      is_nothing = false;
    }

times_step : (t n : ℕ) → 1 ≤ t → capped (t * capped n) ≡ capped (t * n)
times_step t n some =
    ⊎_elim
    (λ (below : n < 4098). let e : min n 4097 ≡ n = omega arith in ap (λ m. capped (t * m)) e)
    (λ (above : 4098 ≤ n).
    let e : min n 4097 ≡ 4097 = omega arith in
    let a : 4097 ≤ t * 4097 = omega arith in
    let b : n ≤ t * n = omega (arith, mul-le-mul_left n some) in
    ap (λ m. capped (t * m)) e ∙ omega arith)
    (cases_lt n 4098)

some_times : (least : ℕ) (most : Option ℕ) → 1 ≤ times_of least most
some_times least None = omega arith
some_times least (Some most) = omega arith

nodes_step : (sign : Bool) (t n : ℕ) → 1 ≤ t → capped (if sign then 1 + capped n else t * capped n)
    ≡ capped (if sign then 1 + n else t * n)
nodes_step true t n some = omega arith
nodes_step false t n some = times_step t n some

few_step : (sign : Bool) (t n : ℕ) → 1 ≤ t → capped (if sign then 1 + n else t * n) ≤ 4096 → n ≤ 4096
few_step true t n some few = omega arith
few_step false t n some few = omega (arith, mul-le-mul_left n some)

place_if : (v : Bool) (at : ℕ) → (if v then Some at else None) ≡ first_place (if v then at ∷ [] else [])
place_if true at = refl
place_if false at = refl

turns_is : (at : ℕ) (count : Count) (a : Syntax) → turns_known at count (known a) ≡ known (turns at count a)
turns_is at count a =
    let some = some_times count.least count.most in
    let pattern = λ (p : Pattern). repeat p count.least count.most count.greedy in
    let e = nodes_step count.is_sign (times count) (nodes a) some in
    let p = kept_one pattern (syntax_pattern a) (capped (nodes a)) (turns_nodes count (capped (nodes a)))
    (λ few. few_step count.is_sign (times count) (capped (nodes a)) some few)
    ∙ ap (λ n. kept n (pattern (syntax_pattern a))) e in
    let l = ap (option_or (first_place (empty_loops a))) (place_if (is_loop count && can_be_empty a) at)
    ∙ first_append (empty_loops a) (if is_loop count && can_be_empty a then at ∷ [] else []) in
    λ i. record {
      pattern = p i;
      nodes = e i;
      can_be_empty = (count.least == 0) || can_be_empty a;
      looping = l i;
      is_nothing = false;
    }

before_is : (a b : Syntax) → before_known (known a) (known b) ≡ known (before a b)
before_is a nothing = refl
before_is a (leaf pattern) = both_is a (leaf pattern)
before_is a (both first second) = both_is a (both first second)
before_is a (either first second) = both_is a (either first second)
before_is a (grouped number body) = both_is a (grouped number body)
before_is a (turns at count body) = both_is a (turns at count body)

abbrev pub known_level : Level → KnownLevel
known_level level =
    record { sequence = known level.sequence; others = option_map known level.others; count = level.count }

abbrev pub known_levels : Levels → KnownLevels
known_levels levels = (known_level levels.0, map known_level levels.1)

whole_step : (sequence : Syntax) (others : Option Syntax) (count : Option (ℕ × Count))
    → whole_known (known_level (record { sequence = sequence; others = others; count = count }))
    ≡ known (whole (record { sequence = sequence; others = others; count = count }))
whole_step sequence None count = refl
whole_step sequence (Some others) count = either_is sequence others

pub whole_is : (level : Level) → whole_known (known_level level) ≡ known (whole level)
whole_is level = whole_step level.sequence level.others level.count

counted_is : (count : Option (ℕ × Count)) (body : Syntax) → counted_known count (known body)
    ≡ known (counted count body)
counted_is None body = refl
counted_is (Some count) body = turns_is count.0 count.1 body

body_is : (body : Syntax) (level : Level) → body_known (known body) (known_level level)
    ≡ known_level (with_body body level)
body_is body level =
    let e = ap (λ part. before_known part (known level.sequence)) (counted_is level.count body)
    ∙ before_is (counted level.count body) level.sequence in
    λ i. record { sequence = e i; others = option_map known level.others; count = None }

opens_step : (number : Option ℕ) (inner : Level) (around : List Level)
    → (
      body_known (group_known number (whole_known (known_level inner))) (outer_known (map known_level around)).0,
      (outer_known (map known_level around)).1,
    )
    ≡ known_levels (with_body (grouped number (whole inner)) (outer around).0, (outer around).1)
opens_step number inner [] =
    ap (λ level. (level, []))
    (ap (λ part. body_known part new_known)
    (ap (group_known number) (whole_is inner) ∙ group_is number (whole inner))
    ∙ body_is (grouped number (whole inner)) new_level)
opens_step number inner (level ∷ levels) =
    ap (λ new. (new, map known_level levels))
    (ap (λ part. body_known part (known_level level))
    (ap (group_known number) (whole_is inner) ∙ group_is number (whole inner))
    ∙ body_is (grouped number (whole inner)) level)

token_is : (at : ℕ) (token : Token) (levels : Levels) → token_known at token (known_levels levels)
    ≡ known_levels (with_token at token levels)
token_is at (item pattern) levels = ap (λ level. (level, map known_level levels.1)) (body_is (leaf pattern) levels.0)
token_is at (opens number) levels = opens_step number levels.0 levels.1
token_is at closes levels = refl
token_is at bars levels = let e = whole_is levels.0 in
    λ i. (record { sequence = nothing_known; others = Some (e i); count = None }, map known_level levels.1)
token_is at (counts count) levels = refl
token_is at unclosed levels = refl
token_is at (broken refusal) levels = refl

levels_is : (tokens : List Placed) → levels_known tokens (new_known, []) ≡ known_levels (levels_of tokens)
levels_is [] = refl
levels_is (placed ∷ tokens) = ap (token_known placed.at placed.token) (levels_is tokens)
    ∙ token_is placed.at placed.token (levels_of tokens)

-- All tokens are read.
pub tree_is_known : (tokens : List Placed) (levels : KnownLevels) → levels ≡ levels_known tokens (new_known, [])
    → whole_known levels.0 ≡ known (syntax_of tokens)
tree_is_known tokens levels is = ap (λ l. whole_known l.0) (is ∙ levels_is tokens) ∙ whole_is (levels_of tokens).0

-- The last token is read first.
pub last_token : (tokens : List Placed) (last : Placed) (levels : KnownLevels)
    → levels_known (tokens ++ last ∷ []) levels ≡ levels_known tokens (token_known last.at last.token levels)
last_token [] last levels = refl
last_token (first ∷ tokens) last levels = ap (token_known first.at first.token) (last_token tokens last levels)

pub none_left : (rest : List PlacedOfBytes) (levels : KnownLevels) → length rest ≡ 0
    → levels_known (map placed_view rest) levels ≡ levels
none_left [] levels none = refl
none_left (placed ∷ rest) levels none = absurd (omega arith)
