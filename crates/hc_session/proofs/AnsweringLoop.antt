-- What the loop over the lines of a piece keeps.
use Rattle.hc_session.proofs.Common.{◌≡◌, ℕ, ◌+◌, ◌≤◌, List, [], ◌∷◌, ◌++◌, length, take}
use Rattle.hc_session.proofs.Common.{drop, Option, Some, None, true, false, arith, refl, sym, ap, ◌∙◌}
use Rattle.hc_session.proofs.Common.{append_assoc, append-nil, length-drop, HasNoLf, whole_lines, rest_of, State}
use Rattle.hc_session.proofs.Common.{AnswersLines, AnswersLinesInPart, AnswersLine, AnswersInPart, Work, LINE_LIMIT}
use Rattle.hc_session.proofs.Common.{HasNoLf-append, HasNoLf-take, at_lf, whole_lines-none, rest_of-none}
use Rattle.hc_session.proofs.Common.{whole_lines-line, rest_of-line}
use Rattle.std.proofs.Math.Seq.{take-length}
use Rattle.memchr.specs.Find.{IsFirstByte, is_byte}
use Rattle.hc_session.proofs.Answering.{lines_none, lines_ended, lines_cons, lines_append, lines_append_in_part}
use Rattle.hc_session.proofs.Answering.{lines_cons_in_part}

-- `all` is what the lines are taken from: those in `lines` were answered, `line` has not ended,
-- and `rest` is still to come.
pub record Answering (begin state : State) (all line rest : List ℕ) (written grown : Option (List ℕ))
    (before after : Work) : Type 0 where
  pub lines : List (List ℕ)
  pub answered : AnswersLines begin state lines written grown before after
  pub going : state.ended ≡ false
  pub whole : whole_lines all ≡ lines ++ whole_lines (line ++ rest)
  pub rest_is : rest_of all ≡ rest_of (line ++ rest)
  pub unended : HasNoLf line
  pub room : length line + length rest ≤ LINE_LIMIT

pub answering_start : (state : State) (line rest : List ℕ) (a : Option (List ℕ)) (n : Work)
    → state.ended ≡ false → HasNoLf line → length line + length rest ≤ LINE_LIMIT
    → Answering state state (line ++ rest) line rest a a n n
answering_start state line rest a n going unended room = record {
  lines = [];
  answered = lines_none state a n;
  going = going;
  whole = refl;
  rest_is = refl;
  unended = unended;
  room = room;
}

-- A search found the first LF.
abbrev pub IsFirstLf : List ℕ → ℕ → Type 0
IsFirstLf rest end = IsFirstByte (is_byte 10) rest (Some end)

front_has_none : (rest : List ℕ) (end : ℕ) → IsFirstLf rest end → HasNoLf (take end rest)
front_has_none rest end found = HasNoLf-take rest end (λ k below within is. found.0.before k (omega arith) below is)

module _ (begin mid : State) (all line rest : List ℕ) (end : ℕ) (a b c : Option (List ℕ)) (k m n : Work)
    (found : IsFirstLf rest end) (before : Answering begin mid all line rest a b k m) where
  -- the next line, and what follows it
  abbrev next : List ℕ
  next = line ++ take end rest

  abbrev behind : List ℕ
  behind = drop 1 (drop end rest)

  split : line ++ rest ≡ next ++ 10 ∷ behind
  split = ap (λ l. line ++ l) (at_lf rest end found.0.high found.1)
      ∙ sym (append_assoc line (take end rest) (10 ∷ behind))

  lines_ahead : whole_lines all ≡ before.lines ++ next ∷ whole_lines behind
  lines_ahead = before.whole ∙ ap (λ l. before.lines ++ whole_lines l) split
      ∙ ap (λ ls. before.lines ++ ls)
      (whole_lines-line next behind
      (HasNoLf-append line (take end rest) before.unended (front_has_none rest end found)))

  pub answering_line : (new : State) → AnswersLine mid new (line ++ take end rest) b c m n → new.ended ≡ false
      → Answering begin new all [] (drop 1 (drop end rest)) a c k n
  answering_line new one going = record {
    lines = before.lines ++ next ∷ [];
    answered =
        lines_append begin mid a b c k m n new _ _ before.answered
        (lines_cons mid new b c c m n n new next [] before.going one (lines_none new c n));
    going = going;
    whole = lines_ahead ∙ sym (append_assoc before.lines (next ∷ []) (whole_lines behind));
    rest_is = before.rest_is ∙ ap rest_of split ∙ rest_of-line next behind;
    unended = refl;
    room = omega (arith, before.room, length-drop 1 (drop end rest), length-drop end rest);
  }

  -- it was an `end`
  pub answering_ended : (new : State) → AnswersLine mid new (line ++ take end rest) b c m n → new.ended ≡ true
      → AnswersLines begin new (whole_lines all) a c k n
  answering_ended new one ended =
      rw lines_ahead
      (lines_append begin mid a b c k m n new _ _ before.answered
      (lines_cons mid new b c c m n n new next (whole_lines behind) before.going one
      (lines_ended new (whole_lines behind) c n ended)))

  pub answering_part : (new : State) → AnswersInPart mid new (line ++ take end rest) b c m n
      → AnswersLinesInPart begin (whole_lines all) a c k n
  answering_part new one =
      rw lines_ahead
      (lines_append_in_part begin mid a b c k m n _ _ before.answered
      (lines_cons_in_part mid new next (whole_lines behind) b c m n before.going one))

module _ (begin state : State) (all line rest : List ℕ) (a b : Option (List ℕ)) (k n : Work) where
  pub answering_end : IsFirstByte (is_byte 10) rest None → Answering begin state all line rest a b k n
      → AnswersLines begin state (whole_lines all) a b k n × (line ++ rest ≡ rest_of all)
  answering_end none before =
      let unended =
      HasNoLf-append line rest before.unended
      (rw take-length at
      (HasNoLf-take rest (length rest) (λ k below within is. none k (omega arith) below is))) in (
        rw (before.whole ∙ ap (λ ls. before.lines ++ ls) (whole_lines-none (line ++ rest) unended)
            ∙ append-nil before.lines) before.answered,
        sym (before.rest_is ∙ rest_of-none (line ++ rest) unended),
      )
