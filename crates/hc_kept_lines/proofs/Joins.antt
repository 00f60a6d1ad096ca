-- The joins of a text, from its front on.
use Rattle.std.proofs.Common.{◌≡◌, ℕ, ◌+◌, ◌<◌, ◌≤◌, List, [], ◌∷◌, ◌++◌, length, take}
use Rattle.std.proofs.Common.{drop, slice_index, false, refl}
use Rattle.std.proofs.Common.{sym, ◌∙◌, ap, arith, add-one, append_assoc, length-drop}
use Rattle.std.proofs.Math.Seq.{drop-cons}
use Rattle.std.proofs.lemmas.List.{take-append-drop, take_more}
use Rattle.hc_lines.specs.Logical.{is_join, unjoined}

-- no join begins before this place
abbrev pub UnjoinedTo : List ℕ → ℕ → Type 0
UnjoinedTo bs n = unjoined bs ≡ take n bs ++ unjoined (drop n bs)

one_at : (bs : List ℕ) (n : ℕ) → n < length bs → drop n bs ≡ slice_index bs n ∷ drop (n + 1) bs
one_at bs n h = rw add-one (drop-cons bs n 0 h)

two_at : (bs : List ℕ) (n : ℕ) → n + 1 < length bs → drop n bs ≡ slice_index bs n ∷ slice_index bs (n + 1)
    ∷ drop (n + 2) bs
two_at bs n h =
    let e : n + 1 + 1 ≡ n + 2 = omega arith in
    one_at bs n (omega arith) ∙ ap (λ l. slice_index bs n ∷ l) (rw e at (one_at bs (n + 1) h))

pub UnjoinedTo-next : (bs : List ℕ) (n : ℕ) → n + 1 < length bs
    → is_join (slice_index bs n) (slice_index bs (n + 1)) ≡ false → UnjoinedTo bs n → UnjoinedTo bs (n + 1)
UnjoinedTo-next bs n h apart to =
    let later : drop (n + 1) bs ≡ slice_index bs (n + 1) ∷ drop (n + 2) bs =
    (let e : n + 1 + 1 ≡ n + 2 = omega arith in rw e at (one_at bs (n + 1) h)) in
    let step : unjoined (drop n bs) ≡ slice_index bs n ∷ unjoined (drop (n + 1) bs) =
    rw (two_at bs n h, apart, later) refl in
    let k : n < length bs = omega arith in
    to ∙ ap (λ l. take n bs ++ l) step
    ∙ sym (append_assoc (take n bs) (slice_index bs n ∷ []) (unjoined (drop (n + 1) bs)))
    ∙ ap (λ l. l ++ unjoined (drop (n + 1) bs)) (sym (take_more bs n 0 k))

unjoined-short : (bs : List ℕ) → length bs ≤ 1 → unjoined bs ≡ bs
unjoined-short [] h = refl
unjoined-short (b ∷ []) h = refl
unjoined-short (b ∷ c ∷ bs) h = absurd (omega arith)

pub UnjoinedTo-end : (bs : List ℕ) (n : ℕ) → length bs ≤ n + 1 → UnjoinedTo bs n → unjoined bs ≡ bs
UnjoinedTo-end bs n h to =
    to ∙ ap (λ l. take n bs ++ l) (unjoined-short (drop n bs) (omega (arith, length-drop n bs)))
    ∙ take-append-drop n bs
