-- Where the text of a line may be cut.
use Rattle.hc_nodes.proofs.Common.{◌≡◌, ℕ, ◌+◌, ◌-◌, ◌<◌, zero, suc, List, [], ◌∷◌, length}
use Rattle.hc_nodes.proofs.Common.{get_or, true, not, ◌==◌, sym, arith, inl, inr, subst, le_antisymm, eqb-true}
use Rattle.hc_nodes.proofs.Common.{cases_lt, not-false, or_cases, begins_with, ends_with, greater, less, space, tab}
use Rattle.hc_nodes.proofs.Common.{name_of}
use Rattle.std.specs.Str.{IsUtf8, IsCharBoundary}
use Rattle.std.specs.List.{prefix_len}
use Rattle.std.proofs.lemmas.Str.{IsCharBoundary-after_ascii, IsCharBoundary-before_ascii, IsCharBoundary-end}
use Rattle.std.proofs.lemmas.List.Sums.{prefix_len-le-length, prefix_len_stops}
use Rattle.std.proofs.lemmas.List.Folds.{length-prefix_len}
use Rattle.hc_base.specs.Lines.{is_blank}
use Rattle.hc_base.proofs.Shared.{blank_ascii}

first_byte : (byte : ℕ) (text : List ℕ) → begins_with byte text ≡ true → (0 < length text)
    × (get_or text 0 0 ≡ byte)
first_byte byte [] is = cc
first_byte byte (b ∷ text) is = (omega arith, eqb-true b byte is)

last_byte : (byte : ℕ) (text : List ℕ) (n : ℕ) → n + 1 ≡ length text → ends_with byte text ≡ true
    → get_or text n 0 ≡ byte
last_byte byte [] n e is = cc
last_byte byte (b ∷ []) zero e is = eqb-true b byte is
last_byte byte (b ∷ []) (suc n) e is = absurd (omega arith)
last_byte byte (b ∷ c ∷ text) zero e is = absurd (omega arith)
last_byte byte (b ∷ c ∷ text) (suc n) e is = last_byte byte (c ∷ text) n (omega arith) is

pub start_boundary : (text : List ℕ) → IsUtf8 text → begins_with less text ≡ true → IsCharBoundary text 1
start_boundary text utf8 is = let first = first_byte less text is in
    IsCharBoundary-after_ascii text 0 utf8 first.0 (omega arith)

pub end_boundary : (text : List ℕ) → begins_with less text ≡ true → ends_with greater text ≡ true
    → IsCharBoundary text (length text - 1)
end_boundary text begins ends =
    let first = first_byte less text begins in
    IsCharBoundary-before_ascii text (length text - 1) (omega arith)
    (omega (arith, last_byte greater text (length text - 1) (omega arith) ends))

name_len : (text : List ℕ) → length (name_of text) ≡ prefix_len (λ b. not (is_blank b)) text
name_len text = length-prefix_len _ text

pub name_boundary : (text : List ℕ) → IsCharBoundary text (length (name_of text))
name_boundary text = rw (name_len text)
    (elim (cases_lt (prefix_len (λ b. not (is_blank b)) text) (length text)) [
      | inl within ↦ IsCharBoundary-before_ascii text _ within
          (blank_ascii _ (not-false _ (prefix_len_stops (λ b. not (is_blank b)) text 0 within)))
      | inr beyond ↦ subst (IsCharBoundary text) (sym (le_antisymm (prefix_len-le-length _ text) beyond))
          (IsCharBoundary-end text)
    ])
