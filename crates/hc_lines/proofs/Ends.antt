-- The last bytes of a text.
use Rattle.std.proofs.Common.{◌≡◌, ℕ, suc, ◌-◌, List, [], ◌∷◌, ◌++◌, length, take, slice_index}
use Rattle.std.proofs.Common.{Bool, true, false, ◌&&◌, nat_eq, refl, sym, ◌∙◌, ap, arith, eqb-true}
use Rattle.std.proofs.Common.{true≢false}
use Rattle.hc_lines.proofs.Common.{backslash, ends_with, lf, joins, without_last}

-- a text that ends with a byte
pub ends_with-split : (byte : ℕ) (bs : List ℕ) → ends_with byte bs ≡ true
    → bs ≡ take (length bs - 1) bs ++ byte ∷ []
ends_with-split byte [] is = absurd (true≢false (sym is))
ends_with-split byte (b ∷ []) is = ap (λ x. x ∷ []) (eqb-true b byte is)
ends_with-split byte (b ∷ c ∷ bs) is =
    let e : suc (suc (length bs)) - 1 ≡ suc (suc (length bs) - 1) = omega arith in
    rw e (ap (λ l. b ∷ l) (ends_with-split byte (c ∷ bs) is))

pub ends_with-at : (byte : ℕ) (bs : List ℕ) → ends_with byte bs ≡ true → slice_index bs (length bs - 1)
    ≡ byte
ends_with-at byte [] is = absurd (true≢false (sym is))
ends_with-at byte (b ∷ []) is = eqb-true b byte is
ends_with-at byte (b ∷ c ∷ bs) is =
    let e : suc (suc (length bs)) - 1 ≡ suc (suc (length bs) - 1) = omega arith in
    rw e (ends_with-at byte (c ∷ bs) is)

pub without_last-ended : (byte : ℕ) (bs : List ℕ) → ends_with byte bs ≡ true
    → without_last byte bs ≡ take (length bs - 1) bs
without_last-ended byte [] is = refl
without_last-ended byte (b ∷ []) is = rw is refl
without_last-ended byte (b ∷ c ∷ bs) is =
    let e : suc (suc (length bs)) - 1 ≡ suc (suc (length bs) - 1) = omega arith in
    rw e (ap (λ l. b ∷ l) (without_last-ended byte (c ∷ bs) is))

pub without_last-same : (byte : ℕ) (bs : List ℕ) → ends_with byte bs ≡ false → without_last byte bs ≡ bs
without_last-same byte [] isnt = refl
without_last-same byte (b ∷ []) isnt = rw isnt refl
without_last-same byte (b ∷ c ∷ bs) isnt = ap (λ l. b ∷ l) (without_last-same byte (c ∷ bs) isnt)

-- a text that ends with a join
pub joins-later : (b c d : ℕ) (bs : List ℕ) → joins (b ∷ c ∷ d ∷ bs) ≡ joins (c ∷ d ∷ bs)
joins-later b c d bs =
    let e : suc (suc (suc (length bs))) - 2 ≡ suc (suc (suc (length bs)) - 2) = omega arith in rw e refl

both : (v w : Bool) → (v && w) ≡ true → (v ≡ true) × (w ≡ true)
both true w h = (refl, h)
both false w h = absurd (true≢false (sym h))

joins-two : (b c : ℕ) → joins (b ∷ c ∷ []) ≡ true → (b ≡ backslash) × (c ≡ lf)
joins-two b c is =
    let h = both (nat_eq backslash b) _ is in
    let k = both (nat_eq lf c) _ h.1 in
    (sym (eqb-true backslash b h.0), sym (eqb-true lf c k.0))

joins-one : (b : ℕ) → joins (b ∷ []) ≡ true → ⊥
joins-one b is = let h = both (nat_eq backslash b) _ is in true≢false (sym h.1)

pub joins-split : (bs : List ℕ) → joins bs ≡ true → bs ≡ take (length bs - 2) bs ++ backslash ∷ lf ∷ []
joins-split [] is = absurd (true≢false (sym is))
joins-split (b ∷ []) is = absurd (joins-one b is)
joins-split (b ∷ c ∷ []) is = let e = joins-two b c is in rw (e.0, e.1) refl
joins-split (b ∷ c ∷ d ∷ bs) is =
    let e : suc (suc (suc (length bs))) - 2 ≡ suc (suc (suc (length bs)) - 2) = omega arith in
    rw e (ap (λ l. b ∷ l) (joins-split (c ∷ d ∷ bs) (sym (joins-later b c d bs) ∙ is)))

pub joins-at : (bs : List ℕ) → joins bs ≡ true → slice_index bs (length bs - 2) ≡ backslash
joins-at [] is = absurd (true≢false (sym is))
joins-at (b ∷ []) is = absurd (joins-one b is)
joins-at (b ∷ c ∷ []) is = (joins-two b c is).0
joins-at (b ∷ c ∷ d ∷ bs) is =
    let e : suc (suc (suc (length bs))) - 2 ≡ suc (suc (suc (length bs)) - 2) = omega arith in
    rw e (joins-at (c ∷ d ∷ bs) (sym (joins-later b c d bs) ∙ is))
