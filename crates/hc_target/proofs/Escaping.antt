-- Escaped paths hold no other escapes, and are decoded to what they were.
use Rattle.hc_target.proofs.Common.{◌≡◌, ℕ, ◌+◌, ◌*◌, ◌/◌, ◌%◌, ◌<◌, Bool, true, false, eqb}
use Rattle.hc_target.proofs.Common.{not, List, [], ◌∷◌, ◌++◌, refl, ap, ◌∙◌, subst, arith}
use Rattle.hc_target.proofs.Common.{AllByRecursion, both_ways, cond_both, ne_eqb, percent, question, begins_with_digits}
use Rattle.hc_target.proofs.Common.{begins_with_slash_digits, escaped, escaped_byte, escapes_slash, has_bad_escape}
use Rattle.hc_target.proofs.Common.{is_kept, some_percent}
use Rattle.std.specs.Char.{digit_char, digit_value, is_ascii_hexdigit}
use Rattle.std.proofs.lemmas.Bool.Decides.{nat_tests}
use Rattle.percent_encoding.specs.Percent.{percent_decode}
use Rattle.percent_encoding.proofs.PercentLemmas.{percent_decode-nil, percent_decode_escape, percent_decode_not_percent}

-- The digit of a value.
record IsDigit (byte value : ℕ) : Type 0 where
  pub hexadecimal : is_ascii_hexdigit byte ≡ true
  pub value_is : digit_value byte ≡ value
  pub no_percent : eqb byte percent ≡ false
  pub no_question : eqb byte question ≡ false

is_digit : (value : ℕ) → value < 16 → IsDigit (digit_char value) value
is_digit value small =
    record {
      hexadecimal = grind (arith, nat_tests);
      value_is = grind (arith, nat_tests);
      no_percent = grind (arith, nat_tests);
      no_question = grind (arith, nat_tests);
    }

-- A byte that is escaped is none that is kept.
kept_differs : (byte other : ℕ) → is_kept byte ≡ true → is_kept other ≡ false → eqb byte other ≡ false
kept_differs byte other kept escapes =
    ne_eqb byte other (λ e. both_ways (is_kept other) escapes (subst (λ b. is_kept b ≡ true) e kept))

abbrev high_digit : ℕ → ℕ
high_digit byte = digit_char (byte / 16)

abbrev low_digit : ℕ → ℕ
low_digit byte = digit_char (byte % 16)

-- The byte is escaped.
record Escapes (byte : ℕ) : Type 0 where
  pub not_kept : is_kept byte ≡ false
  pub high : IsDigit (high_digit byte) (byte / 16)
  pub low : IsDigit (low_digit byte) (byte % 16)

-- What holds of a byte as it stands, or of its escape.
of_either : (P : List ℕ → Type 0) (byte : ℕ) → (is_kept byte ≡ true → P (byte ∷ []))
    → (Escapes byte → P (percent ∷ high_digit byte ∷ low_digit byte ∷ [])) → byte < 256
    → P (escaped_byte byte)
of_either P byte kept escapes small =
    let high = is_digit (byte / 16) (omega arith) in
    let low = is_digit (byte % 16) (omega arith) in
    cond_both (is_kept byte) (byte ∷ []) (percent ∷ high_digit byte ∷ low_digit byte ∷ []) P kept
    (λ e. escapes (record { not_kept = e; high = high; low = low }))

abbrev pub AreBytes : List ℕ → Type 0
AreBytes bytes = AllByRecursion (λ b. b < 256) bytes

-- A kind of text that no escape begins stands behind no `%`.
none_behind : (kind : List ℕ → Bool)
    → ((byte : ℕ) (rest : List ℕ) → Escapes byte → kind (high_digit byte ∷ low_digit byte ∷ rest)
    ≡ false)
    → (path : List ℕ) → AreBytes path → some_percent kind (escaped path) ≡ false
none_behind kind none [] h = refl
none_behind kind none (b ∷ bs) h =
    of_either (λ front. some_percent kind (front ++ escaped bs) ≡ false) b
    (λ kept. rw (kept_differs b percent kept refl) (none_behind kind none bs h.1))
    (λ e. rw (none b (escaped bs) e, e.high.no_percent, e.low.no_percent) (none_behind kind none bs h.1))
    h.0

pub no_bad_escape : (path : List ℕ) → AreBytes path → has_bad_escape (escaped path) ≡ false
no_bad_escape =
    none_behind (λ rest. not (begins_with_digits rest))
    (λ byte rest e. rw (e.high.hexadecimal, e.low.hexadecimal) refl)

no_slash_digits : (byte : ℕ) (rest : List ℕ) → Escapes byte
    → begins_with_slash_digits (high_digit byte ∷ low_digit byte ∷ rest) ≡ false
no_slash_digits byte rest e =
    let other : byte ≡ 47 → ⊥ = λ is. both_ways (is_kept byte) e.not_kept (rw is refl) in
    rw (e.high.value_is, e.low.value_is) (grind (arith, nat_tests))

pub no_escaped_slash : (path : List ℕ) → AreBytes path → escapes_slash (escaped path) ≡ false
no_escaped_slash = none_behind begins_with_slash_digits no_slash_digits

value_back : (byte : ℕ) → Escapes byte → 16 * digit_value (high_digit byte) + digit_value (low_digit byte)
    ≡ byte
value_back byte e = rw (e.high.value_is, e.low.value_is) (omega arith)

pub decoded_back : (path : List ℕ) → AreBytes path → percent_decode (escaped path) ≡ path
decoded_back [] h = percent_decode-nil
decoded_back (b ∷ bs) h =
    let rest = ap (λ path. b ∷ path) (decoded_back bs h.1) in
    of_either (λ front. percent_decode (front ++ escaped bs) ≡ b ∷ bs) b
    (λ kept. percent_decode_not_percent b (escaped bs) (λ e. both_ways (is_kept b) (rw e refl) kept) ∙ rest)
    (λ e.
    percent_decode_escape percent _ _ (escaped bs) refl (omega (arith, e.high.value_is)) (omega (arith, e.low.value_is))
    ∙ ap (λ x. x ∷ percent_decode (escaped bs)) (value_back b e) ∙ rest)
    h.0

-- No `?` stands in what is escaped.
pub no_question_in : (path : List ℕ) → AreBytes path
    → AllByRecursion (λ b. eqb b question ≡ false) (escaped path)
no_question_in [] h = tt
no_question_in (b ∷ bs) h =
    of_either (λ front. AllByRecursion (λ b. eqb b question ≡ false) (front ++ escaped bs)) b
    (λ kept. (kept_differs b question kept refl, no_question_in bs h.1))
    (λ e. (refl, (e.high.no_question, (e.low.no_question, no_question_in bs h.1))))
    h.0
