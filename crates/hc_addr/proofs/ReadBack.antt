-- An address as it is printed is read back.
use Rattle.hc_addr.proofs.Common.{◌≡◌, ℕ, zero, suc, ◌+◌, ◌*◌, ◌/◌, ◌%◌, ◌^◌, ◌<◌}
use Rattle.hc_addr.proofs.Common.{◌≤◌, true, leb, List, [], ◌∷◌, ◌++◌, map, Option, Some, refl, ap}
use Rattle.hc_addr.proofs.Common.{◌∙◌, arith, lit<, lit≤, digit_value, option_map, AllByRecursion, nat_tests}
use Rattle.hc_addr.proofs.Common.{mod-lt, pow-zero, at_most, byte_of, group_of, numbers_of, row_of, v4_of, v6_at, v6_of}
use Rattle.hc_addr.proofs.Common.{whole}
use Rattle.std.specs.Fmt.{decimal}
use Rattle.std.specs.Int.Digits.{number_from_digits}
use Rattle.std.proofs.lemmas.Int.Digits.{number_push}
use Rattle.std.proofs.lemmas.Nat.{div-add-mod'}
use Rattle.hc_base.specs.Bytes.{colon, dot}
use Rattle.hc_addr.specs.declared.addr.Addr.{Addr}
use Rattle.hc_addr.specs.declared.addr.Addr.TheVariants.{V4, V6}
use Rattle.hc_addr.specs.Printed.{IsReadBack, hexadecimal, last_digits, printed}
use Rattle.hc_addr.proofs.Digits.{digits_read, div_below, printed_lacks, printed_some}
use Rattle.hc_addr.proofs.Joined.{IsGroup, Lacks, gap_joined, joined_has, joined_lacks, split_joined}

all_push : {A : Type 0} (P : A → Type 0) (xs : List A) (x : A) → AllByRecursion P xs → P x
    → AllByRecursion P (xs ++ x ∷ [])
all_push P [] x h p = (p, tt)
all_push P (y ∷ ys) x h p = (h.0, all_push P ys x h.1 p)

all_map : {A B : Type 0} (P : A → Type 0) (Q : B → Type 0) (f : A → B) → ((x : A) → P x → Q (f x))
    → (xs : List A) → AllByRecursion P xs → AllByRecursion Q (map f xs)
all_map P Q f g [] h = tt
all_map P Q f g (x ∷ xs) h = (g x h.0, all_map P Q f g xs h.1)

-- The last digits are digits, and write the number where there are enough of them.
digits_below : (base count n : ℕ) → 0 < base → AllByRecursion (λ d. d < base) (last_digits base count n)
digits_below base zero n some = tt
digits_below base (suc count) n some = all_push (λ d. d < base) (last_digits base count (n / base)) (n % base)
    (digits_below base count (n / base) some) (mod-lt n some)

digits_write : (base count n : ℕ) → 0 < base → n < base ^ count
    → number_from_digits base (last_digits base count n) ≡ n
digits_write base zero n some h = let e = rw (pow-zero base) at h in omega arith
digits_write base (suc count) n some h =
    number_push base (last_digits base count (n / base)) (n % base)
    ∙ ap (λ k. k * base + n % base) (digits_write base count (n / base) some (div_below base count n some h))
    ∙ div-add-mod' n base

numbers_read : (number : List ℕ → Option ℕ) (print : ℕ → List ℕ) (P : ℕ → Type 0)
    → ((n : ℕ) → P n → number (print n) ≡ Some n)
    → (ns : List ℕ) → AllByRecursion P ns → numbers_of number (map print ns) ≡ Some ns
numbers_read number print P read [] h = refl
numbers_read number print P read (n ∷ ns) h = rw (read n h.0, numbers_read number print P read ns h.1) refl

byte_read : (n : ℕ) → n < 256 → byte_of (decimal n) ≡ Some n
byte_read n h =
    let small : leb n 255 ≡ true = grind (arith, nat_tests) in
    ap (at_most 255) (digits_read 10 2 n (lit≤ tt) (lit≤ tt) (lit< tt) (omega arith)) ∙ (rw small refl)

group_read : (n : ℕ) → n < 65536 → group_of (hexadecimal n) ≡ Some n
group_read n h = digits_read 16 3 n (lit≤ tt) (lit≤ tt) (lit< tt) h

byte_lacks : (c : ℕ) → 10 ≤ digit_value c → (n : ℕ) → n < 256 → Lacks c (decimal n)
byte_lacks c k n h = printed_lacks 10 n c (lit≤ tt) (lit≤ tt) (omega arith) k

is_group : (n : ℕ) → n < 65536 → IsGroup (hexadecimal n)
is_group n h =
    record {
      some = printed_some 16 n (lit≤ tt) (lit≤ tt) (omega arith);
      lacks = printed_lacks 16 n colon (lit≤ tt) (lit≤ tt) (omega arith) (lit≤ tt);
    }

bytes_lack : (c a : ℕ) → 10 ≤ digit_value c → AllByRecursion (Lacks c) (map decimal (last_digits 256 4 a))
bytes_lack c a k = all_map (λ n. n < 256) (Lacks c) decimal (byte_lacks c k) (last_digits 256 4 a)
    (digits_below 256 4 a (lit< tt))

are_groups : (a : ℕ) → AllByRecursion IsGroup (map hexadecimal (last_digits 65536 8 a))
are_groups a = all_map (λ n. n < 65536) IsGroup hexadecimal is_group (last_digits 65536 8 a)
    (digits_below 65536 8 a (lit< tt))

groups_lack : (groups : List (List ℕ)) → AllByRecursion IsGroup groups → AllByRecursion (Lacks colon) groups
groups_lack [] h = tt
groups_lack (x ∷ xs) h = (h.0.lacks, groups_lack xs h.1)

v4_read : (a : ℕ) → a < 2 ^ 32 → v4_of (printed (V4 a)) ≡ Some a
v4_read a h =
    ap (λ ps. whole 4 (row_of 256 4 (numbers_of byte_of ps)))
    (split_joined dot refl (map decimal (last_digits 256 4 a)) (lit< tt) (bytes_lack dot a (lit≤ tt)))
    ∙ ap (λ ns. whole 4 (row_of 256 4 ns))
    (numbers_read byte_of decimal (λ n. n < 256) byte_read (last_digits 256 4 a) (digits_below 256 4 a (lit< tt)))
    ∙ ap Some (digits_write 256 4 a (lit< tt) h)

v6_read : (a : ℕ) → a < 2 ^ 128 → v6_of (printed (V6 a)) ≡ Some a
v6_read a h =
    ap (v6_at (printed (V6 a))) (gap_joined (map hexadecimal (last_digits 65536 8 a)) (are_groups a))
    ∙ ap (λ ps. whole 8 (row_of 65536 8 (numbers_of group_of ps)))
    (split_joined colon refl (map hexadecimal (last_digits 65536 8 a)) (lit< tt)
    (groups_lack (map hexadecimal (last_digits 65536 8 a)) (are_groups a)))
    ∙ ap (λ ns. whole 8 (row_of 65536 8 ns))
    (numbers_read group_of hexadecimal (λ n. n < 65536) group_read (last_digits 65536 8 a)
    (digits_below 65536 8 a (lit< tt)))
    ∙ ap Some (digits_write 65536 8 a (lit< tt) h)

pub read_back : (addr : Addr) → IsReadBack addr
read_back (V4 a) h =
    rw (joined_lacks colon dot refl (map decimal (last_digits 256 4 a)) (bytes_lack colon a (lit≤ tt)))
    (ap (option_map V4) (v4_read a h))
read_back (V6 a) h = rw (joined_has _ _ _) (ap (option_map V6) (v6_read a h))
