use Rattle.hc_addr.proofs.Common.{◌≡◌, ℕ, ◌+◌, ◌*◌, ◌<◌, ◌≤◌, Bool, true, false, cond, leb}
use Rattle.hc_addr.proofs.Common.{List, [], ◌∷◌, length, get_or, drop, Some, None, suc, drop-cons, refl, arith}
use Rattle.hc_addr.proofs.Common.{nat_tests, digit_value, is_digit, list_all, digits_value_after, at_most}
use Rattle.std.proofs.lemmas.Grind.{common_steps}
use Rattle.hc_addr.proofs.numbers.number_up_to.Goals as goal

-- A number only grows by more digits.
grows : (n : ℕ) (ds : List ℕ) → n ≤ digits_value_after 10 n ds
grows n [] = omega arith
grows n (d ∷ ds) = omega (arith, grows (n * 10 + digit_value d) ds)

passes : (highest n : ℕ) (ds : List ℕ) (v : Bool) → highest < n
    → at_most highest (cond v (Some (digits_value_after 10 n ds)) None) ≡ None
passes highest n ds false h = refl
passes highest n ds true h = let k = grows n ds in let e : leb (digits_value_after 10 n ds) highest
    ≡ false = grind (arith, nat_tests) in rw e refl

passed : (highest n d : ℕ) (text : List ℕ) (i : ℕ) → i < length text → d ≡ digit_value (get_or text i 0)
    → highest < n * 10 + d
    → at_most highest
    (cond (list_all (λ b. is_digit b 10) (drop i text)) (Some (digits_value_after 10 n (drop i text))) None)
    ≡ None
passed highest n d text i within e h = rw (drop-cons text i 0) (passes highest _ (drop (suc i) text) _ (rw e at h))

pub returns-then-value-highest-clause-value : goal.returns-then-value-highest-clause-value
returns-then-value-highest-clause-value c =
    let d = rw c.from.ensures at c.in_ok-value.ensures.value.1 in
    let e = passed c.args.highest c.loop-byte.value c.in_ok-value.field-0 c.args.text.now c.loop-byte.byte-index
    c.loop-byte-test.true d c.if-value-highest.true in
    grind (arith, common_steps, e)
