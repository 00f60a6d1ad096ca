-- A location as bytes and how each is written, and how what is written is read.
use Rattle.std.proofs.Common.{◌≡◌, ℕ, suc, ◌+◌, ◌/◌, ◌%◌, ◌<◌, ◌≤◌, ◌==◌, ◌⊎◌, inl, inr, List, [], ◌∷◌, ◌++◌, map}
use Rattle.std.proofs.Common.{Bool, true, false, ◌&&◌, ◌||◌, refl, sym, ◌∙◌, ap, ap₂, arith, eqb-true, flat_map}
use Rattle.std.proofs.lemmas.Bool.{and_parts, both_ways, ne_eqb}
use Rattle.std.proofs.lemmas.Bool.Decides.{nat_tests}
use Rattle.std.proofs.lemmas.List.Folds.{list_all-append}
use Rattle.std.proofs.lemmas.List.Concat.{flat_map-append}
use Rattle.std.specs.Char.{digit_char, digit_value, is_ascii_hexdigit}
use Rattle.std.specs.List.{after_first, before_first, list_all, position_or_len}
use Rattle.percent_encoding.specs.Percent.{percent_decode}
use Rattle.percent_encoding.proofs.PercentLemmas.{percent_decode-nil, percent_decode_escape}
use Rattle.percent_encoding.proofs.PercentLemmas.{percent_decode_not_percent}
use Rattle.hc_base.specs.Bytes.{is_question, percent, question, slash}
use Rattle.hc_base.specs.Paths.{begins_with_slash, is_slash}
use Rattle.hc_follow.specs.Next.{ends_authority, slashed}
use Rattle.hc_forms.specs.Forms.{is_target_byte}
use Rattle.hc_target.specs.Escapes.{escaped_byte, escapes_slash, has_bad_escape, is_kept}
use Rattle.hc_target.specs.Segments.{is_plain}
use Rattle.hc_sent.specs.Ways.{is_high, is_query}
use Rattle.hc_sent.proofs.ReadFronts.{has_question_byte, no_sign, weigh}

-- A byte as it is, or one that is escaped where it isn't kept.
pub data Mark : Type 0 where
  Stays : ℕ → Mark
  Escapes : ℕ → Mark

abbrev pub byte_of : Mark → ℕ
byte_of (Stays b) = b
byte_of (Escapes b) = b

abbrev pub written_of : Mark → List ℕ
written_of (Stays b) = b ∷ []
written_of (Escapes b) = escaped_byte b

abbrev pub bytes : List Mark → List ℕ
bytes marks = map byte_of marks

abbrev pub writes : List Mark → List ℕ
writes marks = flat_map written_of marks

pub bytes_append : (one other : List Mark) → bytes (one ++ other) ≡ bytes one ++ bytes other
bytes_append [] other = refl
bytes_append (m ∷ one) other = ap (λ bs. byte_of m ∷ bs) (bytes_append one other)

pub writes_append : (one other : List Mark) → writes (one ++ other) ≡ writes one ++ writes other
writes_append one other = flat_map-append written_of one other

-- ---- one mark

abbrev high_digit : ℕ → ℕ
high_digit b = digit_char (b / 16)

abbrev low_digit : ℕ → ℕ
low_digit b = digit_char (b % 16)

abbrev escape : ℕ → List ℕ
escape b = percent ∷ high_digit b ∷ low_digit b ∷ []

-- A byte that may be escaped is one that is kept.
abbrev IsKept : Mark → Type 0
IsKept (Stays b) = Unit {0}
IsKept (Escapes b) = is_kept b ≡ true

-- It is written as its byte, or as an escape.
abbrev IsWritten : Mark → Type 0
IsWritten m = (IsKept m × (written_of m ≡ byte_of m ∷ []))
    ⊎ ((is_kept (byte_of m) ≡ false) × (written_of m ≡ escape (byte_of m)))

either_way : (m : Mark) → IsWritten m
either_way (Stays b) = inl (tt, refl)
either_way (Escapes b) = by (is_kept b) refl
  where
    by : (v : Bool) → is_kept b ≡ v → IsWritten (Escapes b)
    by true is = inl (is, rw is refl)
    by false is = inr (is, rw is refl)

-- What is written begins with this front, of bytes of an origin: so do the bytes.
pub record IsLed (marks : List Mark) (front rest : List ℕ) : Type 0 where
  pub lead : List Mark
  pub left : List Mark
  pub is : marks ≡ lead ++ left
  pub begins : bytes lead ≡ front
  pub goes_on : writes left ≡ rest

pub led : (marks : List Mark) (front rest : List ℕ) → writes marks ≡ front ++ rest → weigh front ≤ 2
    → IsLed marks front rest
led marks [] rest is light = record { lead = []; left = marks; is = refl; begins = refl; goes_on = is }
led [] (b ∷ front) rest is light = absurd (cc)
led (m ∷ marks) (b ∷ front) rest is light = by (either_way m) (λ same. led marks front rest same (omega arith))
  where
    by : IsWritten m → (writes marks ≡ front ++ rest → IsLed marks front rest) → IsLed (m ∷ marks) (b ∷ front) rest
    by (inl own) more =
        let whole : byte_of m ∷ writes marks ≡ b ∷ (front ++ rest) = rw own.1 at is in
        let h = more (cc) in
        record {
          lead = m ∷ h.lead;
          left = h.left;
          is = ap (λ ms. m ∷ ms) h.is;
          begins = cc (whole, h.begins);
          goes_on = h.goes_on;
        }
    by (inr other) more =
        let whole : percent ∷ (high_digit (byte_of m) ∷ low_digit (byte_of m) ∷ writes marks) ≡ b ∷ (front ++ rest) =
        rw other.1 at is in
        let head : percent ≡ b = cc in
        absurd (both_ways (b == percent) (no_sign b front light).1 (rw (← head) refl))

-- An authority ends there in the bytes too.
pub first_ends : (marks : List Mark) → ends_authority (writes marks) ≡ true → ends_authority (bytes marks) ≡ true
first_ends [] ends = refl
first_ends (m ∷ marks) ends = elim (either_way m) [
  | inl own ↦ rw own.1 at ends
  | inr other ↦ absurd (let never : false ≡ true = rw other.1 at ends in cc)
]

-- ---- before and behind the first `?`

abbrev pub before : List ℕ → List ℕ
before text = before_first is_question text

abbrev pub after : List ℕ → List ℕ
after text = after_first is_question text

pub cut_at : (b : ℕ) (text : List ℕ) → is_question b ≡ true → (before (b ∷ text) ≡ []) × (after (b ∷ text) ≡ text)
cut_at b text is = (rw is refl, rw is refl)

pub cut_past : (b : ℕ) (text : List ℕ) → is_question b ≡ false
    → (before (b ∷ text) ≡ b ∷ before text) × (after (b ∷ text) ≡ after text)
cut_past b text is =
    let one : 1 + position_or_len is_question text ≡ suc (position_or_len is_question text) = omega arith in
    let two : 1 + position_or_len is_question text + 1 ≡ suc (position_or_len is_question text + 1) = omega arith in
    (rw (is, one) refl, rw (is, two) refl)

-- A slash before a text that has none stands before the `?`.
pub cut_slashed : (text : List ℕ)
    → (before (slashed text) ≡ slashed (before text)) × (after (slashed text) ≡ after text)
cut_slashed text = by (begins_with_slash text) refl (first text)
  where
    first : (text : List ℕ) → begins_with_slash (before text) ≡ begins_with_slash text
    first [] = refl
    first (b ∷ text) = at (is_question b) refl
      where
        at : (v : Bool) → is_question b ≡ v → begins_with_slash (before (b ∷ text)) ≡ is_slash b
        at true is = ap begins_with_slash (cut_at b text is).0 ∙ ap is_slash (sym (eqb-true b question is))
        at false is = ap begins_with_slash (cut_past b text is).0

    by : (v : Bool) → begins_with_slash text ≡ v → begins_with_slash (before text) ≡ begins_with_slash text
        → (before (slashed text) ≡ slashed (before text)) × (after (slashed text) ≡ after text)
    by true is same = (rw (same, is) refl, rw is refl)
    by false is same =
        let cut = cut_past slash text refl in (rw (same, is) cut.0, rw is cut.1)

-- ---- a path and a query as they are written

record IsDigit (byte value : ℕ) : Type 0 where
  pub hexadecimal : is_ascii_hexdigit byte ≡ true
  pub value_is : digit_value byte ≡ value
  pub target : is_target_byte byte ≡ true
  pub no_percent : (byte == percent) ≡ false
  pub no_question : is_question byte ≡ false

is_digit : (value : ℕ) → value < 16 → IsDigit (digit_char value) value
is_digit value small = record {
  hexadecimal = grind (arith, nat_tests);
  value_is = grind (arith, nat_tests);
  target = grind (arith, nat_tests);
  no_percent = grind (arith, nat_tests);
  no_question = grind (arith, nat_tests);
}

kept_target : (b : ℕ) → is_kept b ≡ true → is_target_byte b ≡ true
kept_target b kept = grind (arith, nat_tests)

plain_byte : (b : ℕ) → is_plain b ≡ true → (b < 256) × ((b == percent) ≡ false)
plain_byte b plain = (grind (arith, nat_tests), grind (arith, nat_tests))

module _ (Open : Type 0) where
  -- What is known of a mark before the first `?`, and behind it.
  abbrev pub IsFine : Bool → Mark → Type 0
  IsFine false (Stays b) = is_high b ≡ false
  IsFine false (Escapes b) = is_question b ≡ false
  IsFine true (Stays b) = is_target_byte b ≡ true
  IsFine true (Escapes b) = (b < 256) × Open

  abbrev pub AreFine : Bool → List Mark → Type 0
  AreFine behind [] = Unit {0}
  AreFine behind (m ∷ marks) = IsFine behind m × AreFine (behind || is_question (byte_of m)) marks

  pub fine_append : (v : Bool) (one other : List Mark) → AreFine v one
      → AreFine (v || has_question_byte (bytes one)) other → AreFine v (one ++ other)
  fine_append true [] other first second = second
  fine_append false [] other first second = second
  fine_append true (m ∷ one) other first second = (first.0, fine_append true one other first.1 second)
  fine_append false (m ∷ one) other first second =
      (first.0, fine_append (is_question (byte_of m)) one other first.1 second)

  pub fine_behind : (v : Bool) (one other : List Mark) → AreFine v (one ++ other)
      → AreFine (v || has_question_byte (bytes one)) other
  fine_behind true [] other all = all
  fine_behind false [] other all = all
  fine_behind true (m ∷ one) other all = fine_behind true one other all.1
  fine_behind false (m ∷ one) other all = fine_behind (is_question (byte_of m)) one other all.1

  -- What is written is a target; its path is decoded to that of the text, and its query is that of the text where no
  -- part that may be escaped gives to it.
  pub record IsEncoded (written text : List ℕ) : Type 0 where
    pub target : list_all is_target_byte written ≡ true
    pub no_bad : has_bad_escape (before written) ≡ false
    pub no_slash : escapes_slash (before written) ≡ false
    pub decoded : percent_decode (before written) ≡ before text
    pub query : is_query (after written) ≡ true
    pub either : Open ⊎ (after written ≡ after text)

  as_itself : (b : ℕ) (written text : List ℕ) → is_plain b ≡ true → is_target_byte b ≡ true → is_question b ≡ false
      → IsEncoded written text → IsEncoded (b ∷ written) (b ∷ text)
  as_itself b written text plain target none h =
      let byte = plain_byte b plain in
      let own = cut_past b written none in
      let bare = cut_past b text none in
      record {
        target = rw (target, h.target) refl;
        no_bad = rw (own.0, byte.1) h.no_bad;
        no_slash = rw (own.0, byte.1) h.no_slash;
        decoded = ap percent_decode own.0
            ∙ percent_decode_not_percent b (before written) (λ e. both_ways (b == percent) byte.1 (rw e refl))
            ∙ ap (λ bs. b ∷ bs) h.decoded ∙ sym bare.0;
        query = rw own.1 h.query;
        either = rw (own.1, bare.1) h.either;
      }

  as_escape : (b : ℕ) (written text : List ℕ) → b < 256 → is_kept b ≡ false → is_question b ≡ false
      → IsEncoded written text → IsEncoded (escape b ++ written) (b ∷ text)
  as_escape b written text small escapes none h =
      let high = is_digit (b / 16) (omega arith) in
      let low = is_digit (b % 16) (omega arith) in
      let one = cut_past percent (high_digit b ∷ low_digit b ∷ written) refl in
      let two = cut_past (high_digit b) (low_digit b ∷ written) high.no_question in
      let three = cut_past (low_digit b) written low.no_question in
      let own : before (escape b ++ written) ≡ escape b ++ before written =
      one.0 ∙ ap (λ t. percent ∷ t) (two.0 ∙ ap (λ t. high_digit b ∷ t) three.0) in
      let behind : after (escape b ++ written) ≡ after written = one.1 ∙ two.1 ∙ three.1 in
      let bare = cut_past b text none in
      let other : b ≡ slash → ⊥ = λ is. both_ways (is_kept b) escapes (rw is refl) in
      record {
        target = rw (high.target, low.target, h.target) refl;
        no_bad = rw (own, high.hexadecimal, low.hexadecimal, high.no_percent, low.no_percent) h.no_bad;
        no_slash = rw (own, high.no_percent, low.no_percent, high.value_is, low.value_is, no_slash_digits b other)
            h.no_slash;
        decoded = ap percent_decode own
            ∙ percent_decode_escape percent _ _ (before written) refl (omega (arith, high.value_is))
            (omega (arith, low.value_is))
            ∙ ap₂ (λ x xs. x ∷ xs) (rw (high.value_is, low.value_is) (omega arith)) h.decoded ∙ sym bare.0;
        query = rw behind h.query;
        either = rw (behind, bare.1) h.either;
      }
    where
      no_slash_digits : (b : ℕ) → (b ≡ slash → ⊥) → ((b / 16 == slash / 16) && (b % 16 == slash % 16)) ≡ false
      no_slash_digits b other = grind (arith, nat_tests)

  encoded_query : (marks : List Mark) → AreFine true marks
      → (list_all is_target_byte (writes marks) ≡ true) × (Open ⊎ (writes marks ≡ bytes marks))
  encoded_query [] fine = (refl, inr refl)
  encoded_query (Stays b ∷ marks) fine =
      let more = encoded_query marks fine.1 in
      (rw (fine.0, more.0) refl, elim more.1 [ inl some ↦ inl some | inr same ↦ inr (ap (λ bs. b ∷ bs) same) ])
  encoded_query (Escapes b ∷ marks) fine = (
    list_all-append is_target_byte (escaped_byte b) (writes marks)
        ∙ (rw (byte (either_way (Escapes b)), (encoded_query marks fine.1).0) refl),
    inl fine.0.1,
  )
    where
      byte : IsWritten (Escapes b) → list_all is_target_byte (escaped_byte b) ≡ true
      byte (inl kept) = rw (kept.1, kept_target b kept.0) refl
      byte (inr other) =
          let small : b < 256 = fine.0.0 in
          rw (other.1, (is_digit (b / 16) (omega arith)).target, (is_digit (b % 16) (omega arith)).target) refl

  pub encoded : (marks : List Mark) → AreFine false marks → list_all is_plain (before (bytes marks)) ≡ true
      → IsEncoded (writes marks) (bytes marks)
  encoded [] fine plain = record {
    target = refl;
    no_bad = refl;
    no_slash = refl;
    decoded = percent_decode-nil;
    query = refl;
    either = inr refl;
  }
  encoded (Stays b ∷ marks) fine plain = by (is_question b) refl fine.1 (encoded marks)
    where
      plain_target : (b : ℕ) → is_plain b ≡ true → is_high b ≡ false → is_target_byte b ≡ true
      plain_target b plain low = grind (arith, nat_tests)

      by : (v : Bool) → is_question b ≡ v → AreFine v marks
          → (AreFine false marks → list_all is_plain (before (bytes marks)) ≡ true
          → IsEncoded (writes marks) (bytes marks))
          → IsEncoded (b ∷ writes marks) (b ∷ bytes marks)
      by true is query more =
          let asked = encoded_query marks query in
          let own = cut_at b (writes marks) is in
          let bare = cut_at b (bytes marks) is in
          record {
            target = rw (eqb-true b question is, asked.0) refl;
            no_bad = rw own.0 refl;
            no_slash = rw own.0 refl;
            decoded = rw (own.0, bare.0) percent_decode-nil;
            query = rw own.1 asked.0;
            either = rw (own.1, bare.1) asked.1;
          }
      by false is path more =
          let parts = and_parts (is_plain b) _ (rw (cut_past b (bytes marks) is).0 at plain) in
          as_itself b (writes marks) (bytes marks) parts.0 (plain_target b parts.0 fine.0) is (more path parts.1)
  encoded (Escapes b ∷ marks) fine plain =
      let parts = and_parts (is_plain b) _ (rw (cut_past b (bytes marks) fine.0).0 at plain) in
      let rest = encoded marks (rw fine.0 at fine.1) parts.1 in
      elim (either_way (Escapes b)) [
        | inl kept ↦
            rw kept.1 (as_itself b (writes marks) (bytes marks) parts.0 (kept_target b kept.0) fine.0 rest)
        | inr other ↦
            rw other.1 (as_escape b (writes marks) (bytes marks) (plain_byte b parts.0).0 other.0 fine.0 rest)
      ]

  -- With a slash before what has none.
  pub slashed_encoded : (marks : List Mark) → IsEncoded (writes marks) (bytes marks)
      → IsEncoded (slashed (writes marks)) (slashed (bytes marks))
  slashed_encoded marks h = by (begins_with_slash (bytes marks)) refl
    where
      begins : (marks : List Mark) → begins_with_slash (writes marks) ≡ begins_with_slash (bytes marks)
      begins [] = refl
      begins (m ∷ marks) = elim (either_way m) [
        | inl own ↦ rw own.1 refl
        | inr other ↦
            ap (λ w. begins_with_slash (w ++ writes marks)) other.1
            ∙ sym (ne_eqb (byte_of m) slash (λ is. both_ways (is_kept (byte_of m)) other.0 (rw is refl)))
      ]

      by : (v : Bool) → begins_with_slash (bytes marks) ≡ v → IsEncoded (slashed (writes marks)) (slashed (bytes marks))
      by true is = rw (begins marks, is) h
      by false is = rw (begins marks, is) (as_itself slash (writes marks) (bytes marks) refl refl refl h)
