-- A search for `::`, byte by byte.
use Rattle.hc_addr.proofs.Common.{◌≡◌, ℕ, ◌+◌, ◌<◌, false, List, ◌∷◌, length, get_or, drop}
use Rattle.hc_addr.proofs.Common.{Option, Some, None, refl, ap, arith, add-one, drop-cons, option_map, begins_with_gap}
use Rattle.hc_addr.proofs.Common.{gap_of}

moved : (at : ℕ) (o : Option ℕ) → option_map (λ k. k + at) (option_map (λ k. k + 1) o)
    ≡ option_map (λ k. k + (at + 1)) o
moved at None = refl
moved at (Some k) = ap Some (omega arith)

gap_past : (at b : ℕ) (bs : List ℕ) → begins_with_gap (b ∷ bs) ≡ false
    → option_map (λ k. k + at) (gap_of (b ∷ bs)) ≡ option_map (λ k. k + (at + 1)) (gap_of bs)
gap_past at b bs e = rw e (moved at (gap_of bs))

-- No `::` stands here: the search goes on at the next byte.
pub gap_step : (at : ℕ) (text : List ℕ) → at < length text → begins_with_gap (drop at text) ≡ false
    → option_map (λ k. k + at) (gap_of (drop at text)) ≡ option_map (λ k. k + (at + 1))
    (gap_of (drop (at + 1) text))
gap_step at text h e =
    let d : drop at text ≡ get_or text at 0 ∷ drop (at + 1) text = rw (add-one) (drop-cons text at 0 h) in
    rw d (gap_past at (get_or text at 0) (drop (at + 1) text) (rw d at e))
