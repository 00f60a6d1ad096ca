-- What the parts of a location are sent as.
use Rattle.std.proofs.Common.{◌≡◌, ℕ, ◌-◌, List, [], ◌∷◌, ◌++◌, length, Bool, true, false, Option, Some, None}
use Rattle.std.proofs.Common.{refl, sym, subst, inl, inr, append-nil, append_assoc}
use Rattle.std.proofs.lemmas.List.{take-append-drop}
use Rattle.std.proofs.Math.Dec.{eqb-suc-zero}
use Rattle.std.specs.List.{list_any}
use Rattle.std.specs.Prelude.{IsTrue, take, drop}
use Rattle.std.specs.Str.{bytes_eq}
use Rattle.hc_alias.specs.Filling.{filling_with}
use Rattle.hc_alias.specs.Locations.{absolute}
use Rattle.hc_alias.specs.Locations as alias
use Rattle.hc_alias.specs.Tests.{Found, behind, found_by, is_below, searched}
use Rattle.hc_base.specs.Bytes.{is_question, question}
use Rattle.hc_base.specs.Paths.{begins_with_slash}
use Rattle.hc_base.specs.Spans.{spanned}
use Rattle.hc_base.specs.declared.place.Span.{Span}
use Rattle.hc_dfa.specs.Texts.{IsText, TextSet}
use Rattle.hc_model.specs.declared.mapping.PathTest.{PathTest}
use Rattle.hc_model.specs.declared.mapping.PathTest.TheVariants.{Prefix, Search}
use Rattle.hc_model.specs.declared.mapping.Redirect.{Redirect}
use Rattle.hc_model.specs.declared.request.Caller.{Caller}
use Rattle.hc_model.specs.declared.template.Piece.{Piece}
use Rattle.hc_model.specs.declared.template.Piece.TheVariants as piece
use Rattle.hc_pat_lang.proofs.Covering.{covered}
use Rattle.hc_pat_lang.specs.Found.{IsGroupText}
use Rattle.hc_pat_lang.specs.Laws.{held_text}
use Rattle.hc_pattern.specs.Pattern.{Pattern}
use Rattle.hc_rw_eval.specs.Locations as rule
use Rattle.hc_rw_sets.proofs.Joins.{joined_text, text_parts}
use Rattle.hc_target.specs.Escapes.{escaped, is_kept}
use Rattle.hc_template.specs.Filled.{filled, filled_piece}
use Rattle.hc_template.specs.Variables.{origin}
use Rattle.hc_ways.specs.Kept.{Held, first_match}
use Rattle.hc_sent.specs.Making.{AreBytes, Asks, EachDirectedIsSent, EachRuledIsSent, Follows}
use Rattle.hc_sent.specs.Making.{IsPart, MayBe, MayFill, MayHold, is_of_bytes, query_writing, text_writing}
use Rattle.hc_sent.specs.Parts.{IsOf, MayWrite, Sent, behind_question}
use Rattle.hc_sent.specs.declared.parts.Part.{Part}
use Rattle.hc_sent.specs.declared.parts.Writing.{Writing}
use Rattle.hc_sent.specs.declared.parts.Writing.TheVariants as writing

-- ---- three parts

of_part : (P : List ℕ → Type 0) (own : Writing) (part : Part) → IsPart P own part → (text : List ℕ) → IsText text
    → P text → IsOf part text
of_part P own part is text bytes holds = (bytes, (is.0 text bytes).1 holds)

-- A text of a part, and what is written for it.
record IsWritten (part : Part) (written : List ℕ) : Type 0 where
  pub own : List ℕ
  pub of : IsOf part own
  pub may : MayWrite part.writing own written

written_by : (P : List ℕ → Type 0) (own : Writing) (part : Part) → IsPart P own part → (text written : List ℕ)
    → IsText text → P text → MayWrite own text written → IsWritten part written
written_by P own part is text written bytes holds may = record {
  own = text;
  of = of_part P own part is text bytes holds;
  may = subst (λ own. MayWrite own text written) (sym is.1) may;
}

three_sent : (one two three : Part) (a b c : List ℕ) → IsWritten one a → IsWritten two b → IsWritten three c
    → Sent (one ∷ two ∷ three ∷ []) (a ++ b ++ c)
three_sent one two three a b c first second third = (
  first.own,
  a,
  b ++ c,
  first.of,
  first.may,
  (second.own, b, c, second.of, second.may, (third.own, c, [], third.of, third.may, refl, sym (append-nil c)), refl),
  append_assoc a b c,
)

-- ---- a rule

text_written : (noescape : Bool) (text : List ℕ)
    → MayWrite (text_writing noescape) text (rule.unless_kept noescape text)
text_written true text = refl
text_written false text = refl

query_escaped : (kept : Bool) (b : ℕ) (query : List ℕ)
    → MayWrite writing.Query (b ∷ query) (question ∷ rule.unless_kept kept (b ∷ query))
query_escaped true b query = inl refl
query_escaped false b query = inr (escaped_behind (is_kept b) refl)
  where
    escaped_behind : (kept : Bool) → is_kept b ≡ kept
        → question ∷ escaped (b ∷ query) ≡ behind_question (escaped (b ∷ query))
    escaped_behind true is = rw is refl
    escaped_behind false is = rw is refl

query_written : (noescape : Bool) (first query : List ℕ)
    → MayWrite (query_writing noescape) query (rule.query_part noescape first query)
query_written true first [] = refl
query_written true first (b ∷ query) = rw (eqb-suc-zero (length query)) refl
query_written false first [] = inl refl
query_written false first (b ∷ query) =
    rw (eqb-suc-zero (length query)) (query_escaped (bytes_eq (b ∷ query) first) b query)

pub each_ruled_is_sent : EachRuledIsSent
each_ruled_is_sent front noescape locations queries parts text first query is text_bytes member query_bytes asked =
    let are = is.1 in
    subst (λ parts. Sent parts (rule.location noescape front text first query)) (sym are.3)
    (three_sent are.0 are.1 are.2 front (rule.unless_kept noescape text) (rule.query_part noescape first query)
    (written_by _ _ _ are.4 front front is.0 refl refl)
    (written_by _ _ _ are.5 text (rule.unless_kept noescape text) text_bytes member (text_written noescape text))
    (written_by _ _ _ are.6 query (rule.query_part noescape first query) query_bytes asked
    (query_written noescape first query)))

-- ---- bytes of a target

taken_text : (count : ℕ) (text : List ℕ) → IsText text → IsText (take count text)
taken_text count text bytes =
    (text_parts (take count text) (drop count text) (subst IsText (sym (take-append-drop count text)) bytes)).0

dropped_text : (count : ℕ) (text : List ℕ) → IsText text → IsText (drop count text)
dropped_text count text bytes =
    (text_parts (take count text) (drop count text) (subst IsText (sym (take-append-drop count text)) bytes)).1

spanned_text : (path : List ℕ) → IsText path → (span : Option Span) → IsText (spanned path span)
spanned_text path bytes None = tt
spanned_text path bytes (Some span) =
    taken_text (span.end - span.start) (drop span.start path) (dropped_text span.start path bytes)

-- ---- a redirect

held_same : (path : List ℕ) (span : Option Span) → held_text path span ≡ spanned path span
held_same path None = refl
held_same path (Some span) = refl

-- What is found in a path of the set: each piece may stand for what it holds, which is a text.
record Fills (paths : TextSet) (from : PathTest) (found : Found) : Type 0 where
  pub groups : (number : ℕ) → MayHold paths from number (found.groups number)
  pub bytes : (number : ℕ) → IsText (found.groups number)
  pub rest : Follows paths from found.rest
  pub rest_bytes : IsText found.rest

fills_prefix : (paths : TextSet) (from path : List ℕ) → IsText path → IsTrue (paths path)
    → Fills paths (Prefix from) (behind from path)
fills_prefix paths from path bytes member = record {
  groups = λ number. refl;
  bytes = λ number. tt;
  rest = (path, bytes, member, refl);
  rest_bytes = dropped_text (length from) path bytes;
}

fills_search : (paths : TextSet) (pattern : Pattern) (path : List ℕ) (held : Held) → IsText path → IsTrue (paths path)
    → first_match path pattern ≡ Some held → Fills paths (Search pattern) (searched path held)
fills_search paths pattern path held bytes member is = record {
  groups = λ number. subst (IsGroupText pattern paths number) (held_same path (held number))
      (covered pattern paths path held number bytes member is);
  bytes = λ number. spanned_text path bytes (held number);
  rest = refl;
  rest_bytes = tt;
}

fills : (paths : TextSet) (from : PathTest) (path : List ℕ) (found : Found) → IsText path → IsTrue (paths path)
    → found_by from path ≡ Some found → Fills paths from found
fills paths (Prefix from) path found bytes member is = by_test (is_below from path) refl
  where
    by_test : (below : Bool) → is_below from path ≡ below → Fills paths (Prefix from) found
    by_test true there = subst (Fills paths (Prefix from)) (let both = rw there at is in cc)
        (fills_prefix paths from path bytes member)
    by_test false none = absurd (let both = rw none at is in cc)
fills paths (Search pattern) path found bytes member is = by_match (first_match path pattern) refl
  where
    by_match : (first : Option Held) → first_match path pattern ≡ first → Fills paths (Search pattern) found
    by_match None none = absurd (let both = rw none at is in cc)
    by_match (Some held) there = subst (Fills paths (Search pattern)) (let both = rw there at is in cc)
        (fills_search paths pattern path held bytes member there)

module _ (paths : TextSet) (from : PathTest) (found : Found) (are : Fills paths from found) where
  piece_filled : (own : Piece) → is_of_bytes own
      → MayBe paths from own (filled_piece (filling_with found.groups) own)
      × IsText (filled_piece (filling_with found.groups) own)
  piece_filled (piece.Bytes bytes) texts = (refl, texts)
  piece_filled (piece.Group number) texts = (are.groups number, are.bytes number)
  piece_filled (piece.CondGroup number) texts = (refl, tt)
  piece_filled (piece.Var var) texts = (refl, tt)
  piece_filled (piece.Lookup' map key keys fallback fallbacks) texts = (refl, tt)

  all_filled : (pieces : List Piece) → AreBytes pieces
      → MayFill paths from pieces (filled (filling_with found.groups) pieces)
      × IsText (filled (filling_with found.groups) pieces)
  all_filled [] texts = (refl, tt)
  all_filled (own ∷ pieces) texts =
      let first = piece_filled own texts.0 in
      let rest = all_filled pieces texts.1 in (
        (
          filled_piece (filling_with found.groups) own,
          filled (filling_with found.groups) pieces,
          refl,
          first.0,
          rest.0,
        ),
        joined_text (filled_piece (filling_with found.groups) own) (filled (filling_with found.groups) pieces) first.1
            rest.1,
      )

absolute_text : (caller : Caller) (target : List ℕ) → IsText (origin caller) → IsText target
    → IsText (absolute caller target)
absolute_text caller target front bytes = by_slash (begins_with_slash target) refl
  where
    by_slash : (slash : Bool) → begins_with_slash target ≡ slash → IsText (absolute caller target)
    by_slash true is = rw is (joined_text (origin caller) target front bytes)
    by_slash false is = rw is bytes

-- The query as it is asked, and as it is written.
asked_so : (paths : TextSet) (redirect : Redirect) (queries : TextSet) (target query : List ℕ) → IsText target
    → MayFill paths redirect.from redirect.to target → IsText query → IsTrue (queries query)
    → (own : List ℕ) × IsText own × Asks paths redirect queries own
    × (alias.query_part target query ≡ behind_question own)
asked_so paths redirect queries target query target_bytes fill bytes asked =
    by_question (list_any is_question target) refl query bytes asked
  where
    by_question : (has : Bool) → list_any is_question target ≡ has → (query : List ℕ) → IsText query
        → IsTrue (queries query) → (own : List ℕ) × IsText own × Asks paths redirect queries own
        × (alias.query_part target query ≡ behind_question own)
    by_question true is [] bytes asked = ([], tt, (target, target_bytes, fill, inr (is, refl)), refl)
    by_question true is (b ∷ query) bytes asked =
        ([], tt, (target, target_bytes, fill, inr (is, refl)), rw (eqb-suc-zero (length query), is) refl)
    by_question false is [] bytes asked = ([], bytes, (target, target_bytes, fill, inl (is, asked)), refl)
    by_question false is (b ∷ query) bytes asked =
        (b ∷ query, bytes, (target, target_bytes, fill, inl (is, asked)), rw (eqb-suc-zero (length query), is) refl)

pub each_directed_is_sent : EachDirectedIsSent
each_directed_is_sent caller redirect paths queries parts path query found made bytes member query_bytes asked is =
    let are = made.2 in
    let own = fills paths redirect.from path found bytes member is in
    let target = all_filled paths redirect.from found own redirect.to made.1 in
    let text = filled (filling_with found.groups) redirect.to in
    let asks = asked_so paths redirect queries text query target.1 target.0 query_bytes asked in
    subst (λ parts. Sent parts (alias.location caller redirect found query)) (sym are.3)
    (three_sent are.0 are.1 are.2 (absolute caller text) (escaped found.rest) (alias.query_part text query)
    (written_by _ _ _ are.4 (absolute caller text) (absolute caller text) (absolute_text caller text made.0 target.1)
    (text, target.1, target.0, refl) refl)
    (written_by _ _ _ are.5 found.rest (escaped found.rest) own.rest_bytes own.rest refl)
    (written_by _ _ _ are.6 asks.0 (alias.query_part text query) asks.1 asks.2 asks.3))
