-- What the loop over the reads of a source keeps, and how each of its ends is a run.
use Rattle.hc_session.proofs.Common.{◌≡◌, ◌⊎◌, ℕ, ◌+◌, ◌-◌, ◌<◌, ◌≤◌, List, []}
use Rattle.hc_session.proofs.Common.{◌∷◌, ◌++◌, length, take, Option, true, false, arith, refl, sym, ap}
use Rattle.hc_session.proofs.Common.{◌∙◌, subst, inl, inr, append-nil, length-append, take-append-le}
use Rattle.hc_session.proofs.Common.{length-take-le, Consumes, Keeps, IsAtEnd, whole_lines, rest_of, State}
use Rattle.hc_session.proofs.Common.{AnswersLines, AnswersLinesInPart, AnswersTaking, Work, LINE_LIMIT, SCRIPT_LIMIT}
use Rattle.hc_session.proofs.Common.{whole_lines-append, rest_of-append, rest_of-none, rest_of-none_longer}
use Rattle.std.proofs.lemmas.Bool.{cases_lt}
use Rattle.std.proofs.Math.Seq.{take-append-add}
use Rattle.hc_session.specs.Conversation.{IsOpen, StaysOpen, Served, Sends, EndsWith, answered_lines, status_at_end}
use Rattle.hc_session.specs.declared.status.Status.{Status}
use Rattle.hc_session.specs.declared.status.Status.TheVariants.{Done, ReadFault, WriteFault, CutLine, LineTooLong}
use Rattle.hc_session.specs.declared.status.Status.TheVariants.{ScriptTooLong}
use Rattle.hc_session.proofs.Answering.{lines_append, lines_append_in_part, lines_none}
use Rattle.hc_session.proofs.Known.{consumes_more, consumes_keeps, consumes_none}

-- These bytes were taken, and their whole lines answered.
pub record Taken (begin : State) (left remaining written grown : Option (List ℕ)) (state : State) (bytes : List ℕ)
    (before after : Work) : Type 0 where
  pub takes : Consumes left remaining bytes
  pub within : StaysOpen bytes
  pub answered : AnswersLines begin state (whole_lines bytes) written grown before after

-- So far this holds; `line` has not ended, and nor has the session.
pub record Serving (begin : State) (left remaining written grown : Option (List ℕ)) (state : State) (line : List ℕ) (count : ℕ)
    (before after : Work) : Type 0 where
  pub bytes : List ℕ
  pub taken : Taken begin left remaining written grown state bytes before after
  pub counted : length bytes ≡ count
  pub unended : rest_of bytes ≡ line
  pub going : state.ended ≡ false

-- Nothing was taken yet.
pub serving_start : (left written : Option (List ℕ)) (state : State) (line : List ℕ) (n : Work)
    → state.ended ≡ false → line ≡ [] → Serving state left left written written state line 0 n n
serving_start left written state line n going none = record {
  bytes = [];
  taken = record {
    takes = consumes_none left;
    within = λ count below. absurd (omega arith);
    answered = lines_none state written n;
  };
  counted = refl;
  unended = sym none;
  going = going;
}

-- Bytes that fit leave the session open after each shorter front of them.
front_open : (bytes chunk : List ℕ) (count : ℕ) → count < length chunk → length (rest_of bytes) + length chunk
    ≤ LINE_LIMIT → length bytes + length chunk ≤ SCRIPT_LIMIT → IsOpen (bytes ++ take count chunk)
front_open bytes chunk count below line_room script_room =
    let front = take count chunk in
    let fits : length front ≡ count = length-take-le count chunk (omega arith) in
    let ends = (rest_of-none_longer (rest_of bytes ++ front)).1 in (
      rw (rest_of-append bytes front) (omega (arith, fits, ends, length-append (rest_of bytes) front)),
      omega (arith, fits, length-append bytes front),
    )

open_more : (bytes chunk : List ℕ) → length (rest_of bytes) + length chunk ≤ LINE_LIMIT
    → length bytes + length chunk ≤ SCRIPT_LIMIT → StaysOpen bytes → StaysOpen (bytes ++ chunk)
open_more bytes chunk line_room script_room within count below = by_side (cases_lt count (length bytes)) where
  by_side : (count < length bytes) ⊎ (length bytes ≤ count) → IsOpen (take count (bytes ++ chunk))
  by_side (inl shorter) = subst IsOpen (sym (take-append-le count bytes chunk (omega arith))) (within count shorter)
  by_side (inr longer) =
      let more = count - length bytes in
      let whole : count ≡ length bytes + more = omega arith in
      let front : take count (bytes ++ chunk) ≡ bytes ++ take more chunk = ap (λ n. take n (bytes ++ chunk)) whole
      ∙ take-append-add bytes chunk more in
      subst IsOpen (sym front)
      (front_open bytes chunk more (omega (arith, length-append bytes chunk)) line_room script_room)

cons_not_nil : (b : ℕ) (bs : List ℕ) → b ∷ bs ≡ [] → ⊥
cons_not_nil b bs e = cc

-- What was taken and answered is a run, where its status says how it ends.
served_as : (begin : State) (left remaining written grown : Option (List ℕ)) (state : State) (bytes : List ℕ) (k n : Work)
    (status : Status) (taken : Taken begin left remaining written grown state bytes k n)
    → Sends status written grown taken.answered.replies
    → AnswersTaking begin (answered_lines status 0 (whole_lines bytes)) taken.answered.replies state
    taken.answered.most
    → EndsWith status remaining bytes state.ended → Served begin left remaining written grown k n status
served_as begin left remaining written grown state bytes k n status all writes answers ends = record {
  taken = bytes;
  count = 0;
  replies = all.answered.replies;
  state = state;
  takes = all.takes;
  within = all.within;
  most = all.answered.most;
  answers = answers;
  writes = writes;
  spent = all.answered.spent;
  ends = ends;
}

module _ (begin : State) (left now later written grown : Option (List ℕ)) (state : State) (line : List ℕ) (count : ℕ) (k m : Work)
    (before : Serving begin left now written grown state line count k m) where
  -- ---- more bytes are answered

  module _ (chunk : List ℕ) (took : Consumes now later chunk) (line_room : length line + length chunk ≤ LINE_LIMIT)
      (script_room : count + length chunk ≤ SCRIPT_LIMIT) where
    within_more : StaysOpen (before.bytes ++ chunk)
    within_more = open_more before.bytes chunk (omega (arith, line_room, ap length before.unended))
        (omega (arith, script_room, before.counted)) before.taken.within

    lines_more : whole_lines (before.bytes ++ chunk) ≡ whole_lines before.bytes ++ whole_lines (line ++ chunk)
    lines_more = whole_lines-append before.bytes chunk
        ∙ ap (λ l. whole_lines before.bytes ++ whole_lines (l ++ chunk)) before.unended

    taken_more : (grown' : Option (List ℕ)) (next : State) (n : Work)
        → AnswersLines state next (whole_lines (line ++ chunk)) grown grown' m n
        → Taken begin left later written grown' next (before.bytes ++ chunk) k n
    taken_more grown' next n answered = record {
      takes = consumes_more left now later before.bytes chunk before.taken.takes took;
      within = within_more;
      answered =
          rw lines_more (lines_append begin state written grown grown' k m n next _ _ before.taken.answered answered);
    }

    pub serving_more : (grown' : Option (List ℕ)) (next : State) (n : Work) (line' : List ℕ) (count' : ℕ)
        → count' ≡ count + length chunk
        → AnswersLines state next (whole_lines (line ++ chunk)) grown grown' m n → next.ended ≡ false
        → line' ≡ rest_of (line ++ chunk) → Serving begin left later written grown' next line' count' k n
    serving_more grown' next n line' count' total answered going unended = record {
      bytes = before.bytes ++ chunk;
      taken = taken_more grown' next n answered;
      counted = length-append before.bytes chunk ∙ ap (λ l. l + length chunk) before.counted ∙ sym total;
      unended = rest_of-append before.bytes chunk ∙ ap (λ l. rest_of (l ++ chunk)) before.unended ∙ sym unended;
      going = going;
    }

    -- an `end` was answered
    pub served_ended : (grown' : Option (List ℕ)) (next : State) (n : Work)
        → AnswersLines state next (whole_lines (line ++ chunk)) grown grown' m n → next.ended ≡ true
        → Served begin left later written grown' k n Done
    served_ended grown' next n answered ended =
        let all = taken_more grown' next n answered in
        served_as begin left later written grown' next (before.bytes ++ chunk) k n Done all all.answered.writes
        all.answered.answers (inl ended)

    pub served_write_fault : (grown' : Option (List ℕ)) (n : Work)
        → AnswersLinesInPart state (whole_lines (line ++ chunk)) grown grown' m n
        → Served begin left later written grown' k n WriteFault
    served_write_fault grown' n answered =
        let all = lines_append_in_part begin state written grown grown' k m n _ _ before.taken.answered answered in
        record {
          taken = before.bytes ++ chunk;
          count = all.count;
          replies = all.replies;
          state = all.state;
          takes = consumes_more left now later before.bytes chunk before.taken.takes took;
          within = within_more;
          most = all.most;
          answers = rw lines_more all.answers;
          writes = all.writes;
          spent = all.spent;
          ends = tt;
        }

module _ (begin : State) (left now written grown : Option (List ℕ)) (state : State) (line : List ℕ) (count : ℕ) (k m : Work)
    (before : Serving begin left now written grown state line count k m) where
  -- the line that has not ended has no LF
  pub serving_unended : rest_of line ≡ line
  serving_unended = rw (sym before.unended) (rest_of-none (rest_of before.bytes) (rest_of-none_longer before.bytes).0)

  is_open : length line < LINE_LIMIT → count < SCRIPT_LIMIT → IsOpen before.bytes
  is_open line_room script_room =
      (omega (arith, line_room, ap length before.unended), omega (arith, script_room, before.counted))

  -- the source may have changed
  still : (later : Option (List ℕ)) → Consumes left later before.bytes
      → Taken begin left later written grown state before.bytes k m
  still later takes = record { takes = takes; within = before.taken.within; answered = before.taken.answered }

  pub served_read_fault : (later : Option (List ℕ)) → Keeps now later → length line < LINE_LIMIT
      → count < SCRIPT_LIMIT → Served begin left later written grown k m ReadFault
  served_read_fault later kept line_room script_room =
      let all = still later (consumes_keeps left now later before.bytes before.taken.takes kept) in
      served_as begin left later written grown state before.bytes k m ReadFault all all.answered.writes all.answered.answers
      (is_open line_room script_room, before.going)

  -- the end of the input
  pub served_at_end : (later : Option (List ℕ)) (chunk : List ℕ) → chunk ≡ [] → Consumes now later chunk
      → (chunk ≡ [] → IsAtEnd later) → length line < LINE_LIMIT → count < SCRIPT_LIMIT
      → Served begin left later written grown k m (status_at_end line)
  served_at_end later chunk none took end line_room script_room = by_line line refl where
    all : Taken begin left later written grown state before.bytes k m
    all = still later
        (rw (none, append-nil) at (consumes_more left now later before.bytes chunk before.taken.takes took))

    by_line : (rest : List ℕ) → line ≡ rest → Served begin left later written grown k m (status_at_end rest)
    by_line [] is = served_as begin left later written grown state before.bytes k m Done all all.answered.writes
        all.answered.answers (inr (end none, before.unended ∙ is, is_open line_room script_room, before.going))
    by_line (b ∷ bs) is =
        served_as begin left later written grown state before.bytes k m CutLine all all.answered.writes all.answered.answers (
          end none,
          (λ empty. absurd (cons_not_nil b bs (sym (before.unended ∙ is) ∙ empty))),
          is_open line_room script_room,
          before.going,
        )

  -- a limit was reached
  pub served_long_line : LINE_LIMIT ≤ length line → Served begin left now written grown k m LineTooLong
  served_long_line long = served_as begin left now written grown state before.bytes k m LineTooLong before.taken
      before.taken.answered.writes before.taken.answered.answers (
        omega (arith, long, ap length before.unended),
        before.going,
      )

  pub served_long_script : length line < LINE_LIMIT → SCRIPT_LIMIT ≤ count
      → Served begin left now written grown k m ScriptTooLong
  served_long_script line_room long =
      served_as begin left now written grown state before.bytes k m ScriptTooLong before.taken before.taken.answered.writes
      before.taken.answered.answers (
        omega (arith, line_room, ap length before.unended),
        omega (arith, long, before.counted),
        before.going,
      )
