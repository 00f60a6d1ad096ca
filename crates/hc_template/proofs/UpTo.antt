-- The bytes before the first byte of some kind.
use Rattle.std.proofs.Common.{◌≡◌, ℕ, zero, suc, ◌+◌, ◌<◌, ◌==◌, List, [], ◌∷◌, length, take}
use Rattle.std.proofs.Common.{get_or, position, Bool, true, false, cond, Some, None, refl, ap, sym, ◌∙◌, arith}
use Rattle.std.specs.List.{position_from}
use Rattle.std.specs.Option.{option_map}
use Rattle.std.proofs.lemmas.Iterator.Adapters.{position_from-zero}
use Rattle.std.proofs.lemmas.List.Quantifiers.{position-Some}
use Rattle.hc_base.specs.Bytes.{brace_close}
use Rattle.hc_template.specs.Fronts.{up_to}
use Rattle.hc_template.specs.Reading.{name_up_to}

ended_at : (end : ℕ) (text : List ℕ) (at : ℕ) → at < length text → (get_or text at 0 == end) ≡ true
    → ((k : ℕ) → k < at → (get_or text k 0 == end) ≡ false)
    → up_to end text ≡ Some (take at text)
ended_at end [] at l here before = absurd (omega arith)
ended_at end (b ∷ bs) zero l here before = rw here refl
ended_at end (b ∷ bs) (suc at) l here before =
    let plain : (b == end) ≡ false = before 0 (omega arith) in
    rw plain (ap (option_map (λ front. b ∷ front))
    (ended_at end bs at (omega arith) here (λ k less. before (suc k) (omega arith))))

endless_here : (end b : ℕ) (bs : List ℕ) (i : ℕ) (t : Bool) → (b == end) ≡ t
    → cond t (Some i) (position_from (λ each. each == end) (i + 1) bs) ≡ None
    → (position_from (λ each. each == end) (i + 1) bs ≡ None → up_to end bs ≡ None)
    → up_to end (b ∷ bs) ≡ None
endless_here end b bs i true e none more = absurd (cc none)
endless_here end b bs i false e none more = rw e (ap (option_map (λ front. b ∷ front)) (more none))

endless_from : (end i : ℕ) (text : List ℕ) → position_from (λ each. each == end) i text ≡ None
    → up_to end text ≡ None
endless_from end i [] none = refl
endless_from end i (b ∷ bs) none = endless_here end b bs i (b == end) refl none (endless_from end (i + 1) bs)

pub ended_by : (end : ℕ) (text : List ℕ) (at : ℕ) → position (λ each. each == end) text ≡ Some at
    → up_to end text ≡ Some (take at text)
ended_by end text at e = let p = position-Some (λ each. each == end) text at 0 e in ended_at end text at p.0 p.1 p.2

pub endless : (end : ℕ) (text : List ℕ) → position (λ each. each == end) text ≡ None
    → up_to end text ≡ None
endless end text e = endless_from end 0 text (sym (position_from-zero (λ each. each == end) text) ∙ e)

pub up_to_brace : (text : List ℕ) → up_to brace_close text ≡ name_up_to text
up_to_brace [] = refl
up_to_brace (b ∷ bs) = ap (λ more. cond (b == brace_close) (Some []) (option_map (λ front. b ∷ front) more))
    (up_to_brace bs)
