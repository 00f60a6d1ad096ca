-- How long a plain template is, once it is filled in.
use Rattle.std.proofs.Common.{◌≡◌, ℕ, zero, suc, ◌+◌, ◌-◌, ◌≤◌, nat_eq, nat_le, List, [], ◌∷◌, ◌++◌}
use Rattle.std.proofs.Common.{length, drop, map, true, false, ◌&&◌, not, Option, Some, None, refl, sym}
use Rattle.std.proofs.Common.{ap, ◌∙◌, subst, sum_by, true≢false, length-append, length-take, leb-true, arith}
use Rattle.std.specs.List.{list_all, range_with_len}
use Rattle.std.proofs.lemmas.Bool.{and_parts, not-true, or_from}
use Rattle.std.proofs.lemmas.List.Sums.{sum_by-append, sum_by-cons}
use Rattle.hc_base.specs.Spans.{spanned}
use Rattle.hc_base.specs.declared.place.Span.{Span}
use Rattle.hc_model.specs.declared.outcome.Outcome.{Outcome}
use Rattle.hc_model.specs.declared.template.Piece.{Piece, out-Piece, out-roll-Piece}
use Rattle.hc_model.specs.declared.template.Piece.TheOpen as layer
use Rattle.hc_model.specs.declared.template.Piece.TheVariants.{Bytes, Group, rolls-Bytes, rolls-Group}
use Rattle.hc_pattern.specs.Pattern.{Pattern}
use Rattle.hc_rank.proofs.Taking.{match_fits}
use Rattle.hc_rank.specs.Laws.{held_length}
use Rattle.hc_rank.specs.Ranks.{added, bytes_in, group_in, groups_in, has_twice, is_plain, is_plain_piece, is_used}
use Rattle.hc_rank.specs.Ranks.{least_rest}
use Rattle.hc_rounds.proofs.Steps.{Gives, gives_as, gives_then}
use Rattle.hc_rw_expand.specs.Contexts.{Context}
use Rattle.hc_rw_expand.specs.Groups.{group_of, matched_in, span_at}
unfoldable use Rattle.hc_rw_expand.specs.Lookups.{expanded}
use Rattle.hc_rw_expand.specs.Lookups.{Looks, open_expanded}
use Rattle.hc_rw_expand.specs.Values.{filling_in}
use Rattle.hc_rw_expand.specs.declared.state.RwState.{RwState}
use Rattle.hc_steps.specs.Step.{leaves}
use Rattle.hc_template.specs.Filled.{Filling}
use Rattle.hc_ways.specs.Kept.{Held, first_match}

-- ---- groups

span_short : (text : List ℕ) (span : Option Span) → length (spanned text span) ≤ held_length span
span_short text None = omega arith
span_short text (Some span) = omega (arith, length-take (span.end - span.start) (drop span.start text))

-- A number that isn't kept holds nothing.
kept_short : (text : List ℕ) (held : Held) (from count number : ℕ)
    → length (spanned text (span_at (map held (range_with_len from count)) number)) ≤ held_length (held (from + number))
kept_short text held from zero number = omega arith
kept_short text held from (suc count) zero =
    let same : from ≡ from + zero = omega arith in
    subst (λ n. length (spanned text (held from)) ≤ held_length (held n)) same (span_short text (held from))
kept_short text held from (suc count) (suc number) =
    let same : from + 1 + number ≡ from + suc number = omega arith in
    subst (λ n. length (spanned text (span_at (map held (range_with_len (from + 1) count)) number))
    ≤ held_length (held n)) same (kept_short text held (from + 1) count number)

group_short : (text : List ℕ) (held : Held) (number : ℕ)
    → length (group_of (Some (matched_in text held)) number) ≤ held_length (held number)
group_short text held number =
    let same : 0 + number ≡ number = omega arith in
    subst (λ n. length (group_of (Some (matched_in text held)) number) ≤ held_length (held n)) same
    (kept_short text held 0 10 number)

-- ---- templates

never_zero : (template : List Piece) → list_all is_plain_piece template ≡ true
    → is_used (groups_in template) 0 ≡ false
never_zero [] plain = refl
never_zero (piece ∷ pieces) plain =
    let parts = and_parts (is_plain_piece piece) (list_all is_plain_piece pieces) plain in
    by piece parts.0 (never_zero pieces parts.1)
  where
    by : (piece : Piece) → is_plain_piece piece ≡ true → is_used (groups_in pieces) 0 ≡ false
        → is_used (group_in piece ++ groups_in pieces) 0 ≡ false
    by (Bytes text) plain none = none
    by (Group number) plain none =
        let other : nat_eq 0 number ≡ false = grind arith in or_from (nat_eq 0 number) _ other none
    by other plain none = absurd (true≢false (sym plain))

bytes_layer : (text : List ℕ) → out-Piece (Bytes text) ≡ layer.Bytes text
bytes_layer text = ap out-Piece (sym (rolls-Bytes text)) ∙ out-roll-Piece (layer.Bytes text)

group_layer : (number : ℕ) → out-Piece (Group number) ≡ layer.Group number
group_layer number = ap out-Piece (sym (rolls-Group number)) ∙ out-roll-Piece (layer.Group number)

module _ (looks : Looks) (filling : Filling) (holds : ℕ → ℕ)
    (each : (number : ℕ) → length (filling.group number) ≤ holds number) where
  -- A text is no longer than a template's own bytes and its groups.
  abbrev IsBelow : List Piece → List ℕ → Type 0
  IsBelow template text = length text ≤ added template + sum_by holds (groups_in template)

  abbrev IsBelowPiece : Piece → List ℕ → Type 0
  IsBelowPiece piece text = length text ≤ bytes_in piece + sum_by holds (group_in piece)

  piece_short : (piece : Piece) → is_plain_piece piece ≡ true
      → Gives (IsBelowPiece piece) (open_expanded {E = Outcome} looks filling piece (out-Piece piece))
  piece_short (Bytes text) plain =
      subst (λ part. Gives (IsBelowPiece (Bytes text)) (open_expanded {E = Outcome} looks filling (Bytes text) part))
      (sym (bytes_layer text)) (omega arith)
  piece_short (Group number) plain =
      subst
      (λ part. Gives (IsBelowPiece (Group number)) (open_expanded {E = Outcome} looks filling (Group number) part))
      (sym (group_layer number)) (omega (arith, each number))
  piece_short other plain = absurd (true≢false (sym plain))

  filled_short : (template : List Piece) → list_all is_plain_piece template ≡ true
      → Gives (IsBelow template) (expanded {E = Outcome} looks filling template)
  unfolding expanded
  filled_short [] plain = omega arith
  filled_short (piece ∷ pieces) plain =
      let parts = and_parts (is_plain_piece piece) (list_all is_plain_piece pieces) plain in
      gives_then (IsBelowPiece piece) (IsBelow (piece ∷ pieces))
      (open_expanded {E = Outcome} looks filling piece (out-Piece piece)) _ (piece_short piece parts.0)
      (λ front first.
      gives_then (IsBelow pieces) (IsBelow (piece ∷ pieces)) (expanded {E = Outcome} looks filling pieces)
      (λ rest. leaves (front ++ rest)) (filled_short pieces parts.1)
      (λ rest more. omega (
        arith,
        first,
        more,
        length-append front rest,
        sum_by-cons bytes_in piece pieces,
        sum_by-append holds (group_in piece) (groups_in pieces),
      )))

-- What a rule's form promises: behind a match the template takes so many bytes less than the text that was matched.
pub form_short : (context : Context) (looks : Looks) (less : ℕ) (pattern : Pattern) (text : List ℕ) (held : Held)
    (state : RwState) (template : List Piece) → first_match text pattern ≡ Some held
    → state.groups ≡ Some (matched_in text held)
    → (is_plain pattern template && nat_le (added template + less) (least_rest (groups_in template) pattern)) ≡ true
    → Gives (λ made. length made + less ≤ length text)
    (expanded {E = Outcome} looks (filling_in context state) template)
form_short context looks less pattern text held state template is_match groups form =
    let used = groups_in template in
    let parts = and_parts (is_plain pattern template) _ form in
    let plain = and_parts (list_all is_plain_piece template && not (has_twice used)) _ parts.0 in
    let pieces = and_parts (list_all is_plain_piece template) (not (has_twice used)) plain.0 in
    let fits = match_fits text used pattern (never_zero template pieces.0) (not-true _ pieces.1) (not-true _ plain.1)
    (length text + 1) 0 held is_match in
    let room = leb-true (added template + less) (least_rest used pattern) parts.1 in
    let bytes : ℕ → ℕ = λ number. held_length (held number) in
    gives_as (IsBelow looks (filling_in context state) bytes each template)
    (λ made. length made + less ≤ length text)
    (expanded {E = Outcome} looks (filling_in context state) template)
    (filled_short looks (filling_in context state) bytes each template pieces.0)
    (λ made below. omega (arith, below, fits, room))
  where
    each : (number : ℕ) → length (group_of state.groups number) ≤ held_length (held number)
    each number = subst (λ groups. length (group_of groups number) ≤ held_length (held number)) (sym groups)
        (group_short text held number)
