-- How a class is read.
use Rattle.hc_pattern.proofs.Common.{◌≡◌, ℕ, zero, suc, ◌+◌, ◌-◌, ◌<◌, ◌≤◌, ◌==◌, Bool}
use Rattle.hc_pattern.proofs.Common.{true, false, not, ◌&&◌, ◌||◌, List, [], ◌∷◌, ◌++◌, nat_lt}
use Rattle.hc_pattern.proofs.Common.{length, drop, take, get_or, refl, sym, ap, ◌∙◌, append_assoc, arith}
use Rattle.hc_pattern.proofs.Common.{eqb-true, lt-ltb, nat_tests, map-append, map}
use Rattle.hc_pattern.proofs.Rests.{next_item, rest_is}
use Rattle.std.specs.Char.{eq_ignore_ascii_case, to_ascii_lowercase, to_ascii_uppercase}
use Rattle.hc_pattern.specs.ClassViews.{placed_view}
use Rattle.hc_pattern.specs.Members.{Member, Written, member_at}
use Rattle.hc_pattern.specs.declared.class.Placed.{Placed as PlacedOfBytes}
use Rattle.hc_pattern.specs.Classes.{Class, Placed, class_from, one_longer, with_member}

-- Members that are there already, so many bytes long, and a class behind them.
abbrev pub onto : List Placed → ℕ → Class → Class
onto members length c = record { members = members ++ c.members; closed = c.closed; length = length + c.length }

-- ---- a set, byte by byte

add_step : (test has : Bool) (n b : ℕ) (v : Bool) → (b == n) ≡ v → has ≡ (nat_lt b n && test)
    → (b ≡ n → test ≡ true) → (has || v) ≡ (nat_lt b (n + 1) && test)
add_step test has n b true at is met =
    let same : b ≡ n = eqb-true b n at in rw (is, met same, lt-ltb b (n + 1) (omega arith)) (grind (arith, nat_tests))
add_step test has n b false at is met = grind (arith, nat_tests)

pub byte_added : (test : ℕ → Bool) (has : Bool) (n b : ℕ) → has ≡ (nat_lt b n && test b) → test n ≡ true
    → (has || (b == n)) ≡ (nat_lt b (n + 1) && test b)
byte_added test has n b is met = add_step (test b) has n b _ refl is (λ same. ap test same ∙ met)

left_step : (test has : Bool) (n b : ℕ) (v : Bool) → (b == n) ≡ v → has ≡ (nat_lt b n && test)
    → (b ≡ n → test ≡ false) → has ≡ (nat_lt b (n + 1) && test)
left_step test has n b true at is unmet = let same : b ≡ n = eqb-true b n at in
    rw (is, unmet same) (grind (arith, nat_tests))
left_step test has n b false at is unmet = grind (arith, nat_tests)

pub byte_left : (test : ℕ → Bool) (has : Bool) (n b : ℕ) → has ≡ (nat_lt b n && test b) → test n ≡ false
    → has ≡ (nat_lt b (n + 1) && test b)
byte_left test has n b is unmet = left_step (test b) has n b _ refl is (λ same. ap test same ∙ unmet)

pub all_bytes : (test : Bool) (n b : ℕ) → b < 256 → 256 ≤ n → (nat_lt b n && test) ≡ test
all_bytes test n b within all = rw (lt-ltb b n (omega arith)) refl

-- A byte is a letter in one of its cases.
pub either_case : (a b : ℕ) → ((false || (b == to_ascii_lowercase a)) || (b == to_ascii_uppercase a))
    ≡ eq_ignore_ascii_case a b
either_case a b = grind (arith, nat_tests)

-- ---- members

onto_longer : (members : List Placed) (n : ℕ) (c : Class) → onto members n (one_longer c) ≡ onto members (n + 1) c
onto_longer members n c = let e : n + (c.length + 1) ≡ n + 1 + c.length = omega arith in
    λ i. record { members = members ++ c.members; closed = c.closed; length = e i }

onto_member : (members : List Placed) (n : ℕ) (placed : Placed) (c : Class) → onto members n (with_member placed c)
    ≡ onto (members ++ placed ∷ []) n c
onto_member members n placed c = let e = append_assoc members (placed ∷ []) c.members in
    λ i. record { members = sym e i; closed = c.closed; length = n + c.length }

one_passed : (passed : ℕ) (first : Bool) (at b : ℕ) (rest : List ℕ) → 0 < passed
    → class_from passed first at (b ∷ rest) ≡ one_longer (class_from (passed - 1) first (at + 1) rest)
one_passed zero first at b rest some = absurd (omega arith)
one_passed (suc passed) first at b rest some = let e : suc passed - 1 ≡ passed = omega arith in rw e refl

-- The next byte belongs to a member before.
pub class_passed : (members : List Placed) (text : List ℕ) (passed from i : ℕ) (first : Bool) → i < length text
    → 0 < passed
    → onto members (i + 1) (class_from (passed - 1) first (from + (i + 1)) (drop (i + 1) text))
    ≡ onto members i (class_from passed first (from + i) (drop i text))
class_passed members text passed from i first within some =
    let e : from + (i + 1) ≡ from + i + 1 = omega arith in
    sym (ap (λ l. onto members i (class_from passed first (from + i) l)) (next_item text i 0 within)
    ∙ ap (onto members i) (one_passed passed first (from + i) (get_or text i 0) (drop (i + 1) text) some)
    ∙ onto_longer members i (class_from (passed - 1) first (from + i + 1) (drop (i + 1) text))
    ∙ ap (λ at. onto members (i + 1) (class_from (passed - 1) first at (drop (i + 1) text))) (sym e))

here : (passed : ℕ) (first : Bool) (at b : ℕ) (rest : List ℕ) (w : Written) → passed ≤ 0
    → ((b == 93) && not first) ≡ false → w ≡ member_at at b rest
    → class_from passed first at (b ∷ rest) ≡ with_member (record { at = at; member = w.member })
    (one_longer (class_from (w.length - 1) false (at + 1) rest))
here zero first at b rest w none stays is = rw (stays, is) refl
here (suc passed) first at b rest w none stays is = absurd (omega arith)

-- The next byte begins a member.
pub class_member : (before all : List PlacedOfBytes) (now : PlacedOfBytes) (text : List ℕ) (passed from i more : ℕ)
    (first : Bool) (w : Written) → i < length text → passed ≤ 0
    → ((get_or text i 0 == 93) && not first) ≡ false
    → w ≡ member_at (from + i) (get_or text i 0) (take (length text - (i + 1)) (drop (i + 1) text))
    → placed_view now ≡ record { at = from + i; member = w.member } → more ≡ w.length - 1
    → all ≡ before ++ now ∷ []
    → onto (map placed_view all) (i + 1) (class_from more false (from + (i + 1)) (drop (i + 1) text))
    ≡ onto (map placed_view before) i (class_from passed first (from + i) (drop i text))
class_member before all now text passed from i more first w within none stays is seen follow added =
    let rest = drop (i + 1) text in
    let e : from + (i + 1) ≡ from + i + 1 = omega arith in
    let same : w ≡ member_at (from + i) (get_or text i 0) rest =
    is ∙ ap (member_at (from + i) (get_or text i 0)) (rest_is text i) in
    let later = class_from (w.length - 1) false (from + i + 1) rest in
    sym (ap (λ l. onto (map placed_view before) i (class_from passed first (from + i) l)) (next_item text i 0 within)
    ∙ ap (onto (map placed_view before) i) (here passed first (from + i) (get_or text i 0) rest w none stays same)
    ∙ onto_member (map placed_view before) i (record { at = from + i; member = w.member }) (one_longer later)
    ∙ onto_longer (map placed_view before ++ record { at = from + i; member = w.member } ∷ []) i later
    ∙ ap (λ placed. onto (map placed_view before ++ placed ∷ []) (i + 1) later) (sym seen)
    ∙ ap (λ l. onto l (i + 1) later)
    (sym (ap (map placed_view) added ∙ map-append placed_view before (now ∷ [])))
    ∙ ap (λ at. onto (map placed_view all) (i + 1) (class_from (w.length - 1) false at rest)) (sym e)
    ∙ ap (λ n. onto (map placed_view all) (i + 1) (class_from n false (from + (i + 1)) rest)) (sym follow))

abbrev pub placed_at : Member → ℕ → Placed
placed_at member at = record { at = at; member = member }
