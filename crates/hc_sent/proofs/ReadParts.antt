-- The marks of a location that is sent: what is known of each where nothing may be outside.
use Rattle.std.proofs.Common.{◌≡◌, ◌≢◌, ℕ, ◌<◌, ◌⊎◌, inl, inr, List, [], ◌∷◌, ◌++◌, map, Bool, true, false, not, refl}
use Rattle.std.proofs.Common.{sym, ◌∙◌, ap, ap₂, subst, ◌||◌, append_assoc, append-nil, if◌then◌else◌}
use Rattle.std.proofs.lemmas.Bool.{cond_both, false_from_ne_true, or_parts, or_right, true_from_ne_false}
use Rattle.std.proofs.lemmas.List.Folds.{list_any-append}
use Rattle.std.specs.List.{list_all, list_any}
use Rattle.hc_base.specs.Bytes.{is_question, question}
use Rattle.hc_dfa.specs.Texts.{IsText}
use Rattle.hc_follow.specs.Next.{behind}
use Rattle.hc_follow.specs.declared.origin.Origin.{Origin}
use Rattle.hc_forms.specs.Forms.{is_host_byte, is_target_byte}
use Rattle.hc_target.specs.Escapes.{escaped, escaped_byte, is_kept}
use Rattle.hc_sent.specs.Parts.{IsOf, Joined, MayWrite, Sent, bare, behind_question}
use Rattle.hc_sent.specs.Ways.{GivesQuery, GivesQuestion, HidesQuestion, IsFirst, IsHigh, IsOpen, MayStay, Stands}
use Rattle.hc_sent.specs.Ways.{has_query, has_question, if_behind, is_filled, is_high, may_escape, may_stay}
use Rattle.hc_sent.specs.declared.parts.Part.{Part}
use Rattle.hc_sent.specs.declared.parts.Writing.{Writing}
use Rattle.hc_sent.specs.declared.parts.Writing.TheVariants.{AsIs, Escaped, Query, QueryAsIs}
use Rattle.hc_sent.proofs.ReadFronts.{behind_within, has_question_byte, no_question}
use Rattle.hc_sent.proofs.ReadMarks.{AreFine, IsFine, Mark, after, byte_of, bytes, bytes_append, cut_at, cut_past}
use Rattle.hc_sent.proofs.ReadMarks.{fine_append, writes, writes_append}
use Rattle.hc_sent.proofs.ReadMarks.Mark.{Escapes, Stays}

-- ---- a byte of a text

byte_at : (within : List ℕ) (b : ℕ) (more : List ℕ) → IsText (within ++ b ∷ more) → b < 256
byte_at [] b more text = text.0
byte_at (c ∷ within) b more text = byte_at within b more text.1

any_at : (test : ℕ → Bool) (within : List ℕ) (b : ℕ) (more : List ℕ) → test b ≡ true
    → list_any test (within ++ b ∷ more) ≡ true
any_at test within b more is =
    list_any-append test within (b ∷ more)
    ∙ or_right (list_any test within) (list_any test (b ∷ more)) (rw is refl)

filled_at : (within : List ℕ) (b : ℕ) (more : List ℕ) → is_filled (within ++ b ∷ more) ≡ true
filled_at [] b more = refl
filled_at (c ∷ within) b more = refl

-- What stands behind a `?` isn't empty where something stands behind its text.
filled_after : (text : List ℕ) (b : ℕ) (more : List ℕ) → has_question_byte text ≡ true
    → is_filled (after (text ++ b ∷ more)) ≡ true
filled_after [] b more has = absurd (cc)
filled_after (c ∷ text) b more has = by (is_question c) refl (filled_after text b more)
  where
    by : (v : Bool) → is_question c ≡ v
        → (has_question_byte text ≡ true → is_filled (after (text ++ b ∷ more)) ≡ true)
        → is_filled (after (c ∷ (text ++ b ∷ more))) ≡ true
    by true is later = ap is_filled (cut_at c (text ++ b ∷ more) is).1 ∙ filled_at text b more
    by false is later = ap is_filled (cut_past c (text ++ b ∷ more) is).1 ∙ later (rw is at has)

-- ---- the marks of a part

abbrev mark_of : Bool → ℕ → Mark
mark_of true = Escapes
mark_of false = Stays

mark_byte : (escapes : Bool) (b : ℕ) → byte_of (mark_of escapes b) ≡ b
mark_byte true b = refl
mark_byte false b = refl

mapped_bytes : (escapes : Bool) (own : List ℕ) → bytes (map (mark_of escapes) own) ≡ own
mapped_bytes escapes [] = refl
mapped_bytes escapes (b ∷ own) = ap₂ (λ x xs. x ∷ xs) (mark_byte escapes b) (mapped_bytes escapes own)

abbrev written_so : Bool → List ℕ → List ℕ
written_so true own = escaped own
written_so false own = own

mapped_writes : (escapes : Bool) (own : List ℕ) → writes (map (mark_of escapes) own) ≡ written_so escapes own
mapped_writes true [] = refl
mapped_writes false [] = refl
mapped_writes true (b ∷ own) = ap (λ bs. escaped_byte b ++ bs) (mapped_writes true own)
mapped_writes false (b ∷ own) = ap (λ bs. b ∷ bs) (mapped_writes false own)

-- What stands before a text of the part.
abbrev question_before : List ℕ → List ℕ
question_before [] = []
question_before (b ∷ own) = question ∷ []

abbrev lead_of : Writing → List ℕ → List ℕ
lead_of AsIs own = []
lead_of Escaped own = []
lead_of Query own = question_before own
lead_of QueryAsIs own = question_before own

query_is : (escapes : Bool) (own : List ℕ) → behind_question (written_so escapes own)
    ≡ question_before own ++ written_so escapes own
query_is true [] = refl
query_is false [] = refl
query_is true (b ∷ own) = cond_both (is_kept b) (b ∷ []) _
    (λ w. behind_question (w ++ escaped own) ≡ question ∷ (w ++ escaped own)) (λ _. refl) (λ _. refl)
query_is false (b ∷ own) = refl

bare_is : (w : Writing) (own : List ℕ) → bare w own ≡ lead_of w own ++ own
bare_is AsIs own = refl
bare_is Escaped own = refl
bare_is Query own = query_is false own
bare_is QueryAsIs own = query_is false own

record IsHow (w : Writing) (own written : List ℕ) : Type 0 where
  pub escapes : Bool
  pub may : (if escapes then may_escape w else may_stay w) ≡ true
  pub is : written ≡ lead_of w own ++ written_so escapes own

how : (w : Writing) (own written : List ℕ) → MayWrite w own written → IsHow w own written
how AsIs own written is = record { escapes = false; may = refl; is = is }
how Escaped own written is = record { escapes = true; may = refl; is = is }
how Query own written (inl is) = record { escapes = false; may = refl; is = is ∙ query_is false own }
how Query own written (inr is) = record { escapes = true; may = refl; is = is ∙ query_is true own }
how QueryAsIs own written is = record { escapes = false; may = refl; is = is ∙ query_is false own }

-- Where no `?` stands before it, it is no query.
no_query : (w : Writing) (own : List ℕ) → is_filled own ≡ true → has_question_byte (lead_of w own) ≡ false
    → (w ≡ AsIs) ⊎ (w ≡ Escaped)
no_query AsIs own some none = inl refl
no_query Escaped own some none = inr refl
no_query Query [] some none = absurd (cc)
no_query Query (b ∷ own) some none = absurd (cc)
no_query QueryAsIs [] some none = absurd (cc)
no_query QueryAsIs (b ∷ own) some none = absurd (cc)

question_fine : (Open : Type 0) (own : List ℕ) (v : Bool) → AreFine Open v (map Stays (question_before own))
question_fine Open [] v = tt
question_fine Open (b ∷ own) true = (refl, tt)
question_fine Open (b ∷ own) false = (refl, tt)

lead_fine : (Open : Type 0) (w : Writing) (own : List ℕ) (v : Bool) → AreFine Open v (map Stays (lead_of w own))
lead_fine Open AsIs own v = tt
lead_fine Open Escaped own v = tt
lead_fine Open Query own v = question_fine Open own v
lead_fine Open QueryAsIs own v = question_fine Open own v

abbrev marks_of : Writing → Bool → List ℕ → List Mark
marks_of w escapes own = map Stays (lead_of w own) ++ map (mark_of escapes) own

marks_bytes : (w : Writing) (escapes : Bool) (own : List ℕ) → bytes (marks_of w escapes own) ≡ bare w own
marks_bytes w escapes own =
    bytes_append (map Stays (lead_of w own)) (map (mark_of escapes) own)
    ∙ ap₂ (λ one other. one ++ other) (mapped_bytes false (lead_of w own)) (mapped_bytes escapes own)
    ∙ sym (bare_is w own)

marks_writes : (w : Writing) (escapes : Bool) (own : List ℕ)
    → writes (marks_of w escapes own) ≡ lead_of w own ++ written_so escapes own
marks_writes w escapes own =
    writes_append (map Stays (lead_of w own)) (map (mark_of escapes) own)
    ∙ ap₂ (λ one other. one ++ other) (mapped_writes false (lead_of w own)) (mapped_writes escapes own)

or_false : (v : Bool) → (v || false) ≡ v
or_false true = refl
or_false false = refl

-- Nothing is outside, whatever the paths are.
abbrev pub IsInside : List Part → List Origin → Origin → Type 0
IsInside all before origin =
    HidesQuestion all before origin ⊎ (MayStay all before origin ⊎ IsHigh all before origin) → ⊥

module _ (all : List Part) (before : List Origin) (origin : Origin)
    (host : list_all is_host_byte origin.host ≡ true) where
  abbrev Open : Type 0
  Open = IsOpen all before origin

  -- ---- one part

  module _ (inside : IsInside all before origin) (part : Part) (text : List ℕ) (of : IsOf part text) (front : List ℕ)
      (stands : Stands all before origin part front (bare part.writing text)) where
    abbrev own : List ℕ
    own = bare part.writing text

    abbrev lead : List ℕ
    lead = lead_of part.writing text

    abbrev MayBe : Bool → Type 0
    MayBe escapes = (if escapes then may_escape part.writing else may_stay part.writing) ≡ true

    -- A byte of its text.
    module _ (within : List ℕ) (b : ℕ) (more : List ℕ) (is : text ≡ within ++ b ∷ more) where
      abbrev here : List ℕ
      here = front ++ (lead ++ within)

      any : (test : ℕ → Bool) → test b ≡ true → list_any test text ≡ true
      any test at = ap (list_any test) is ∙ any_at test within b more at

      own_is : own ≡ (lead ++ within) ++ b ∷ more
      own_is = bare_is part.writing text ∙ ap (λ t. lead ++ t) is ∙ sym (append_assoc lead within (b ∷ more))

      whole : front ++ own ≡ here ++ b ∷ more
      whole = ap (λ t. front ++ t) own_is ∙ sym (append_assoc front (lead ++ within) (b ∷ more))

      no_question_here : has_question_byte here ≡ false
          → (has_question_byte front ≡ false) × (has_question_byte (lead ++ within) ≡ false)
      no_question_here none =
          or_parts (has_question_byte front) _ (sym (list_any-append is_question front (lead ++ within)) ∙ none)

      gives_query : has_question_byte here ≡ true → GivesQuery all before origin part
      gives_query has =
          let at : (front ++ own) ++ stands.rest ≡ here ++ ((b ∷ more) ++ stands.rest) =
          ap (λ t. t ++ stands.rest) whole ∙ append_assoc here (b ∷ more) stands.rest in
          let h = behind_within origin here ((b ∷ more) ++ stands.rest) (b ∷ more) stands.behind host
          (ap (behind origin) (sym at) ∙ stands.first.1) has in
          record {
            front = front;
            own = own;
            stands = stands;
            some = λ none. some (filled_at (lead ++ within) b more) (sym own_is ∙ none);
            query = ap (has_query origin) whole ∙ ap (if_behind (λ rest. is_filled (after rest))) h.2
                ∙ filled_after h.0 b more h.1;
          }
        where
          some : {t : List ℕ} → is_filled t ≡ true → t ≢ []
          some filled none = let never : true ≡ false = sym filled ∙ ap is_filled none in cc

      gives_question : has_question_byte here ≡ false → is_question b ≡ true → GivesQuestion all before origin part
      gives_question none byte =
          let has : has_question_byte (front ++ own) ≡ true =
          ap has_question_byte whole ∙ any_at is_question here b more byte in
          let h = behind_within origin (front ++ own) stands.rest [] stands.behind host stands.first.1 has in
          record {
            front = front;
            own = own;
            stands = stands;
            none = no_question origin front host (no_question_here none).0;
            question = ap (has_question origin) (sym (append-nil (front ++ own)))
                ∙ ap (if_behind has_question_byte) h.2 ∙ ap has_question_byte (append-nil h.0) ∙ h.1;
          }

      kind : has_question_byte here ≡ false → (part.writing ≡ AsIs) ⊎ (part.writing ≡ Escaped)
      kind none =
          no_query part.writing text (ap is_filled is ∙ filled_at within b more)
          (or_parts (has_question_byte lead) _ (sym (list_any-append is_question lead within)
          ∙ (no_question_here none).1)).0

      fine : (escapes : Bool) → MayBe escapes → (v : Bool) → has_question_byte here ≡ v
          → IsFine Open v (mark_of escapes b)
      fine true may true has = (byte_at within b more (subst IsText is of.0), (part, may, gives_query has))
      fine true may false none = elim (kind none) [
        | inl as_is ↦ absurd (let never : false ≡ true = rw as_is at may in cc)
        | inr escapes ↦
            false_from_ne_true (is_question b)
            (λ byte. inside (inl (part, escapes, gives_question none byte)))
      ]
      fine false may true has =
          true_from_ne_false (is_target_byte b) (λ none. inside (inr (inl (
            part,
            may,
            gives_query has,
            (text, of, any (λ b. not (is_target_byte b)) (rw none refl)),
          ))))
      fine false may false none = elim (kind none) [
        | inl as_is ↦
            false_from_ne_true (is_high b)
            (λ high. inside (inr (inr (part, front, own, stands, as_is, (text, of, any is_high high)))))
        | inr escapes ↦ absurd (let never : false ≡ true = rw escapes at may in cc)
      ]

    text_fine : (escapes : Bool) → MayBe escapes → (within rest : List ℕ) → text ≡ within ++ rest
        → AreFine Open (has_question_byte (front ++ (lead ++ within))) (map (mark_of escapes) rest)
    text_fine escapes may within [] is = tt
    text_fine escapes may within (b ∷ rest) is = (
      fine within b rest is escapes may _ refl,
      subst (λ v. AreFine Open v (map (mark_of escapes) rest)) one_more
          (text_fine escapes may (within ++ b ∷ []) rest (is ∙ sym (append_assoc within (b ∷ []) rest))),
    )
      where
        one_more : has_question_byte (front ++ (lead ++ (within ++ b ∷ [])))
            ≡ (has_question_byte (front ++ (lead ++ within)) || is_question (byte_of (mark_of escapes b)))
        one_more =
            ap has_question_byte (ap (λ t. front ++ t) (sym (append_assoc lead within (b ∷ [])))
            ∙ sym (append_assoc front (lead ++ within) (b ∷ [])))
            ∙ list_any-append is_question (front ++ (lead ++ within)) (b ∷ [])
            ∙ ap (λ v. has_question_byte (front ++ (lead ++ within)) || v)
            (or_false (is_question b) ∙ ap is_question (sym (mark_byte escapes b)))

    part_fine : (escapes : Bool) → MayBe escapes
        → AreFine Open (has_question_byte front) (marks_of part.writing escapes text)
    part_fine escapes may =
        fine_append Open (has_question_byte front) (map Stays lead) (map (mark_of escapes) text)
        (lead_fine Open part.writing text (has_question_byte front))
        (subst (λ v. AreFine Open v (map (mark_of escapes) text))
        (ap (λ t. has_question_byte (front ++ t)) (append-nil lead) ∙ list_any-append is_question front lead
        ∙ ap (λ t. has_question_byte front || has_question_byte t) (sym (mapped_bytes false lead)))
        (text_fine escapes may [] text refl))

  -- ---- all parts

  pub record IsMarked (parts : List Part) (location : List ℕ) : Type 0 where
    pub marks : List Mark
    pub joined : Joined parts (bytes marks)
    pub written : writes marks ≡ location
    pub fine : IsInside all before origin → (earlier : List Part) (front rest : List ℕ) → all ≡ earlier ++ parts
        → Joined earlier front → IsFirst before origin (front ++ bytes marks) rest
        → AreFine Open (has_question_byte front) marks

  joined_more : (earlier : List Part) (front : List ℕ) (part : Part) (own : List ℕ) → IsOf part own
      → Joined earlier front → Joined (earlier ++ part ∷ []) (front ++ bare part.writing own)
  joined_more [] front part own of begins =
      (own, [], of, refl, ap (λ t. t ++ bare part.writing own) begins ∙ sym (append-nil (bare part.writing own)))
  joined_more (first ∷ earlier) front part own of begins = (
    begins.0,
    begins.1 ++ bare part.writing own,
    begins.2,
    joined_more earlier begins.1 part own of begins.3,
    ap (λ t. t ++ bare part.writing own) begins.4
        ∙ append_assoc (bare first.writing begins.0) begins.1 (bare part.writing own),
  )

  pub marked : (parts : List Part) (location : List ℕ) → Sent parts location → IsMarked parts location
  marked [] location sent =
      record { marks = []; joined = refl; written = sym sent; fine = λ inside earlier front rest split begins first. tt }
  marked (part ∷ parts) location sent =
      let text = bare part.writing sent.0 in
      let so = how part.writing sent.0 sent.1 sent.4 in
      let own = marks_of part.writing so.escapes sent.0 in
      let own_bytes = marks_bytes part.writing so.escapes sent.0 in
      let more = marked parts sent.2 sent.5 in
      let whole = bytes_append own more.marks ∙ ap (λ t. t ++ bytes more.marks) own_bytes in
      record {
        marks = own ++ more.marks;
        joined = (sent.0, bytes more.marks, sent.3, more.joined, whole);
        written = writes_append own more.marks
            ∙ ap₂ (λ one other. one ++ other) (marks_writes part.writing so.escapes sent.0 ∙ sym so.is) more.written
            ∙ sym sent.6;
        fine = λ inside earlier front rest split begins first.
            let same = ap (λ t. front ++ t) whole ∙ sym (append_assoc front text (bytes more.marks)) in
            let fits : IsFirst before origin ((front ++ text) ++ bytes more.marks) rest =
            subst (λ t. IsFirst before origin t rest) same first in
            let stands : Stands all before origin part front text = record {
              earlier = earlier;
              later = parts;
              split = split;
              begins = begins;
              text = sent.0;
              of = sent.3;
              is = refl;
              rest = bytes more.marks;
              goes_on = more.joined;
              behind = rest;
              first = fits;
            } in
            fine_append Open (has_question_byte front) own more.marks
            (part_fine inside part sent.0 sent.3 front stands so.escapes so.may)
            (subst (λ v. AreFine Open v more.marks)
            (list_any-append is_question front text
            ∙ ap (λ t. has_question_byte front || has_question_byte t) (sym own_bytes))
            (more.fine inside (earlier ++ part ∷ []) (front ++ text) rest
            (split ∙ sym (append_assoc earlier (part ∷ []) parts))
            (joined_more earlier front part sent.0 sent.3 begins) fits));
      }
