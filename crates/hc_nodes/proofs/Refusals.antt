-- The first of some refusals.
use Rattle.hc_nodes.proofs.Common.{◌≡◌, ℕ, List, ◌∷◌, Bool, true, false, refl, ap, Option, Some, None}
use Rattle.hc_nodes.proofs.Common.{option_map, arith, nat_tests, Line, earlier_of, rule_broken, comes_first}
use Rattle.hc_nodes.proofs.Common.{first_of_all, open_behind, or_earlier, refusals, refused_at, with_broken}
use Rattle.hc_base.specs.declared.fault.AtLine.{AtLine}

first_trans : (a b c : AtLine) → comes_first a b ≡ true → comes_first b c ≡ true → comes_first a c ≡ true
first_trans a b c ab bc = grind (arith, nat_tests)

first_total : (a b : AtLine) → comes_first a b ≡ false → comes_first b a ≡ true
first_total a b ab = grind (arith, nat_tests)

three : (a b c : AtLine) (v w z : Bool) → comes_first a b ≡ v → comes_first b c ≡ w → comes_first a c ≡ z
    → earlier_of (or_earlier a (Some b)) (Some c) ≡ or_earlier a (or_earlier b (Some c))
three a b c true true true ab bc ac = rw (bc, ab, ac) refl
three a b c true true false ab bc ac = let never = first_trans a b c ab bc in cc
three a b c true false z ab bc ac = rw (bc, ab) refl
three a b c false true z ab bc ac = rw (ab, bc, ab) refl
three a b c false false true ab bc ac = let never = first_trans a c b ac (first_total b c bc) in cc
three a b c false false false ab bc ac = rw (ab, bc, ac) refl

earlier_of-none : (first : Option AtLine) → earlier_of first None ≡ first
earlier_of-none None = refl
earlier_of-none (Some a) = refl

pub earlier_of-earlier_of : (first : Option AtLine) (a : AtLine) (later : Option AtLine)
    → earlier_of (earlier_of first (Some a)) later ≡ earlier_of first (or_earlier a later)
earlier_of-earlier_of None a later = refl
earlier_of-earlier_of (Some first) a None = earlier_of-none (or_earlier first (Some a))
earlier_of-earlier_of (Some first) a (Some later) = three first a later _ _ _ refl refl refl

earlier_with_broken : (first : Option AtLine) (line : Line) (broken : Option ℕ) (later : List AtLine)
    → earlier_of (earlier_of first (option_map (refused_at line) broken)) (first_of_all later)
    ≡ earlier_of first (first_of_all (with_broken line broken later))
earlier_with_broken first line None later = ap (λ a. earlier_of a (first_of_all later)) (earlier_of-none first)
earlier_with_broken first line (Some code) later =
    earlier_of-earlier_of first (refused_at line code) (first_of_all later)

-- A line more.
pub earlier_refusals : (first : Option AtLine) (openings later : List Line) (line : Line) (lines : List Line)
    → later ≡ open_behind openings line
    → earlier_of (earlier_of first (option_map (refused_at line) (rule_broken openings line)))
    (first_of_all (refusals later lines)) ≡ earlier_of first (first_of_all (refusals openings (line ∷ lines)))
earlier_refusals first openings later line lines is =
    rw is (earlier_with_broken first line (rule_broken openings line) (refusals (open_behind openings line) lines))
