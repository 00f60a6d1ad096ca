-- How the logic stores a pattern: as a tree of numbers that gives it back.
use Rattle.std.specs.Prelude.{◌≡◌, ℕ, ◌==◌, Bool, true, false, if◌then◌else◌, Option, Some, None}
use Rattle.std.specs.Prelude.{refl}
use Rattle.std.specs.Coded.{Coded, code_by}
use Rattle.std.proofs.Common.{ap}
use base.Stored.{Gv, gnil, gnum, gcons, num}
use denote.Struct.Codes.{itself}
use Rattle.hc_pattern.specs.Pattern.{Pattern, empty, byte, class, start, finish, cat, alt, group, repeat}

abbrev first_of : Gv → Gv
first_of gnil = gnil
first_of (gnum n) = gnil
first_of (gcons a b) = a

abbrev second_of : Gv → Gv
second_of gnil = gnil
second_of (gnum n) = gnil
second_of (gcons a b) = b

abbrev most_tree : Option ℕ → Gv
most_tree None = gnil
most_tree (Some n) = gnum n

abbrev most_of : Gv → Option ℕ
most_of gnil = None
most_of (gnum n) = Some n
most_of (gcons a b) = None

abbrev bool_tree : Bool → Gv
bool_tree false = gnum 0
bool_tree true = gnum 1

-- Each node has a number, and behind it its parts.
abbrev tree_of : Pattern → Gv
tree_of empty = gcons (gnum 0) gnil
tree_of (byte b) = gcons (gnum 1) (gnum b)
tree_of start = gcons (gnum 2) gnil
tree_of finish = gcons (gnum 3) gnil
tree_of (class set) = gcons (gnum 4) (gcons (gnum set.low) (gnum set.high))
tree_of (cat a b) = gcons (gnum 5) (gcons (tree_of a) (tree_of b))
tree_of (alt a b) = gcons (gnum 6) (gcons (tree_of a) (tree_of b))
tree_of (group number a) = gcons (gnum 7) (gcons (gnum number) (tree_of a))
tree_of (repeat a least most greedy) =
    gcons (gnum 8) (gcons (tree_of a) (gcons (gnum least) (gcons (most_tree most) (bool_tree greedy))))

abbrev leaf : ℕ → ℕ → Pattern
leaf kind b =
    if kind == 0 then empty else (if kind == 1 then byte b else (if kind == 2 then start else finish))

-- A node by its number, its two parts and the patterns that these are.
abbrev node : ℕ → Gv → Gv → Pattern → Pattern → Pattern
node kind a b first second =
    if kind == 4 then class (record { low = num a; high = num b })
    else (if kind == 5 then cat first second
    else (if kind == 6 then alt first second
    else (if kind == 7 then group (num a) second
    else repeat first (num (first_of b)) (most_of (first_of (second_of b))) (num (second_of (second_of b)) == 1))))

abbrev pattern_in : Gv → Pattern
pattern_in gnil = empty
pattern_in (gnum n) = empty
pattern_in (gcons kind gnil) = leaf (num kind) 0
pattern_in (gcons kind (gnum n)) = leaf (num kind) n
pattern_in (gcons kind (gcons a b)) = node (num kind) a b (pattern_in a) (pattern_in b)

most_back : (most : Option ℕ) → most_of (most_tree most) ≡ most
most_back None = refl
most_back (Some n) = refl

bool_back : (b : Bool) → (num (bool_tree b) == 1) ≡ b
bool_back false = refl
bool_back true = refl

pub tree_back : (p : Pattern) → pattern_in (tree_of p) ≡ p
tree_back empty = refl
tree_back (byte b) = refl
tree_back (class set) = refl
tree_back start = refl
tree_back finish = refl
tree_back (cat a b) = λ i. cat (tree_back a i) (tree_back b i)
tree_back (alt a b) = λ i. alt (tree_back a i) (tree_back b i)
tree_back (group number a) = ap (group number) (tree_back a)
tree_back (repeat a least most greedy) = λ i. repeat (tree_back a i) least (most_back most i) (bool_back greedy i)

abbrev pub pattern_code : Coded Pattern
pattern_code = code_by Gv itself tree_of pattern_in tree_back
