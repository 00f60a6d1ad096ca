-- What an edit touches, byte by byte.
use Rattle.std.proofs.Common.{◌≡◌, ℕ, ◌+◌, ◌-◌, ◌<◌, ◌≤◌, List, [], ◌∷◌, ◌++◌}
use Rattle.std.proofs.Common.{length, take, drop, get_or}
use Rattle.std.proofs.Common.{Bool, true, false, ◌&&◌, ◌||◌, refl, sym, ◌∙◌, ap, arith, length-drop}
use Rattle.std.proofs.Common.{◌⊎◌, ⊎_elim, append_assoc}
use Rattle.std.proofs.lemmas.List.{drop_more, take-append-drop, take_more}
use Rattle.hc_lines.specs.Logical.{is_nothing}
use Rattle.hc_kept_lines.specs.Edit.{is_ended, open_line, touched}
use Rattle.hc_kept_lines.specs.Runs.{Parts}
use Rattle.hc_kept_lines.proofs.Cutting.{take_sum}
use Rattle.hc_kept_lines.proofs.Ending.{open_line-is}
use Rattle.hc_kept_lines.proofs.Keeping.{ended-front}

pub open_line-at : (text : List ℕ) (end : ℕ) → end ≤ length text → is_ended (take end text) ≡ true
    → ((k : ℕ) → end < k → k ≤ length text → is_ended (take k text) ≡ false)
    → open_line text ≡ drop end text
open_line-at text end inside is none =
    ap open_line (sym (take-append-drop end text))
    ∙ open_line-is (take end text) (drop end text) is
    (λ k some less. ap is_ended (sym (take_sum end k text))
    ∙ none (end + k) (omega arith) (omega (arith, length-drop end text)))

-- So many bytes behind both texts are touched.
pub record TouchedTo (was now back : List ℕ) (more : ℕ) : Type 0 where
  pub value : length (touched was now back)
      ≡ more + length (touched (was ++ take more back) (now ++ take more back) (drop more back))

touched-cons : (was now : List ℕ) (b : ℕ) (bs : List ℕ) → (is_ended was && is_ended now) ≡ false
    → touched was now (b ∷ bs) ≡ b ∷ touched (was ++ b ∷ []) (now ++ b ∷ []) bs
touched-cons was now b bs e = rw e refl

pub TouchedTo-more : (was now back : List ℕ) (more : ℕ) → more < length back
    → (is_ended (was ++ take more back) && is_ended (now ++ take more back)) ≡ false
    → TouchedTo was now back more → TouchedTo was now back (more + 1)
TouchedTo-more was now back more within apart to =
    let b = get_or back more 0 in
    let next : take (more + 1) back ≡ take more back ++ b ∷ [] = take_more back more 0 within in
    let rest : drop more back ≡ b ∷ drop (more + 1) back = drop_more back more 0 within in
    let step = ap length (ap (touched (was ++ take more back) (now ++ take more back)) rest
    ∙ touched-cons (was ++ take more back) (now ++ take more back) b (drop (more + 1) back) apart) in
    record {
      value = rw (
        next,
        ← append_assoc was (take more back) (b ∷ []),
        ← append_assoc now (take more back) (b ∷ []),
      ) (omega (arith, to.value, step));
    }

-- It ends where a logical line ends in both, or with the texts.
pub touched-found : (was now bs : List ℕ) → (is_ended was && is_ended now) ≡ true → touched was now bs ≡ []
touched-found was now [] is = refl
touched-found was now (b ∷ bs) is = rw is refl

left : (v w : Bool) (back : List ℕ) → (v && w) ≡ true → (v || is_nothing back) ≡ true
left true w back e = refl
left false w back e = cc

right : (v w : Bool) (back : List ℕ) → (v && w) ≡ true → (w || is_nothing back) ≡ true
right true true back e = refl
right true false back e = cc
right false w back e = cc

pub Parts-both : (was now back : List ℕ) → (is_ended was && is_ended now) ≡ true → Parts was back × Parts now back
Parts-both was now back is = (left (is_ended was) (is_ended now) back is, right (is_ended was) (is_ended now) back is)

pub none_down : (text : List ℕ) (end : ℕ) → is_ended (take end text) ≡ false
    → ((k : ℕ) → end < k → k ≤ length text → is_ended (take k text) ≡ false)
    → (k : ℕ) → end - 1 < k → k ≤ length text → is_ended (take k text) ≡ false
none_down text end isnt none k more less = ⊎_elim
    (λ (e : k ≡ end). ap (λ n. is_ended (take n text)) e ∙ isnt)
    (λ (h : end < k). none k h less)
    (here k end more)
  where
    here : (k end : ℕ) → end - 1 < k → (k ≡ end) ⊎ (end < k)
    here k end more = grind arith

pub TouchedTo-found : (was now back : List ℕ) (more : ℕ)
    → (is_ended (was ++ take more back) && is_ended (now ++ take more back)) ≡ true → TouchedTo was now back more
    → more ≡ length (touched was now back)
TouchedTo-found was now back more is to =
    omega (
      arith,
      to.value,
      ap length (touched-found (was ++ take more back) (now ++ take more back) (drop more back) is),
    )

-- a text in front that is ended doesn't matter
pub touched-front : (front was now back : List ℕ) → is_ended front ≡ true
    → touched was (front ++ now) back ≡ touched was now back
touched-front front was now [] is = refl
touched-front front was now (b ∷ back) is = by _ refl
    (ap (λ l. touched (was ++ b ∷ []) l back) (append_assoc front now (b ∷ []))
    ∙ touched-front front (was ++ b ∷ []) (now ++ b ∷ []) back is)
  where
    by : (v : Bool) → (is_ended was && is_ended now) ≡ v
        → touched (was ++ b ∷ []) ((front ++ now) ++ b ∷ []) back ≡ touched (was ++ b ∷ []) (now ++ b ∷ []) back
        → touched was (front ++ now) (b ∷ back) ≡ touched was now (b ∷ back)
    by true e more = rw (ended-front front now is, e) refl
    by false e more = rw (ended-front front now is, e) (ap (λ l. b ∷ l) more)
