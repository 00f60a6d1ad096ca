-- What was answered, line after line.
use Rattle.hc_session.proofs.Common.{◌≡◌, ℕ, ◌+◌, List, [], ◌∷◌, ◌++◌, Option, true}
use Rattle.hc_session.proofs.Common.{false, arith, refl, sym, ap, ◌∙◌, subst, inl, inr, take, length}
use Rattle.hc_session.proofs.Common.{append_assoc, length-append, true≢false, Appends, State, AnswersTaking}
use Rattle.hc_session.proofs.Common.{AppendsFront, SendsInPart, AnswersLine, AnswersInPart, AnswersLines}
use Rattle.hc_session.proofs.Common.{AnswersLinesInPart, IsSpent, Work, work, both, output, refusals}
use Rattle.std.proofs.lemmas.List.Concat.{flat_map-append}
use Rattle.std.proofs.lemmas.List.Elements.{filter-append}
use Rattle.std.proofs.Math.Seq.{take-append-add}
use Rattle.std.specs.Prelude.{Err, Ok, Result, codes, filter, if◌then◌else◌}
use Rattle.std.specs.declared.alloc.AllocError.{AllocError as NoMemory}
use Rattle.serde_json.proofs.OnLiterals.{serde_json_on_literals}
use Rattle.hc_json.specs.Reply.{Reply, no_memory, reply_line}
use Rattle.hc_base.specs.declared.place.Refusal.{Refusal}
use Rattle.hc_follow.specs.declared.chain.TheConstants.{MOST_STEPS}
use Rattle.hc_json.specs.Command.{Command, command_of, decide, ends, follow, verify}
use Rattle.hc_session.specs.Deciding.{MayTry}
use Rattle.hc_session.specs.Ending.{MayFollow}
use Rattle.hc_session.specs.Session.{CountsCommand, CountsRuns, LineTurn, MayEvaluate, MayRead, ReadsCommand, Says}
use Rattle.hc_session.specs.Session.{command_bytes, command_evals, is_no_memory}
use Rattle.hc_session.specs.declared.stepped.Stepped.{Stepped}
use Rattle.hc_session.proofs.Known.{appends_none, appends_more}

pub no_memory_printed : reply_line no_memory ≡ codes "{\"no_memory\":true}\n"
unfolding serde_json_on_literals
no_memory_printed = refl

-- ---- the counters

pub none_first : (w : Work) → w ≡ both (work 0 0) w
none_first w =
    let evals : w.evals ≡ 0 + w.evals = omega arith in
    let bytes : w.bytes ≡ 0 + w.bytes = omega arith in
    λ i. work (evals i) (bytes i)

pub none_last : (w : Work) → both w (work 0 0) ≡ w
none_last w =
    let evals : w.evals + 0 ≡ w.evals = omega arith in
    let bytes : w.bytes + 0 ≡ w.bytes = omega arith in
    λ i. work (evals i) (bytes i)

pub both_assoc : (u v w : Work) → both (both u v) w ≡ both u (both v w)
both_assoc u v w =
    let evals : u.evals + v.evals + w.evals ≡ u.evals + (v.evals + w.evals) = omega arith in
    let bytes : u.bytes + v.bytes + w.bytes ≡ u.bytes + (v.bytes + w.bytes) = omega arith in
    λ i. work (evals i) (bytes i)

refusals-append : (xs ys : List Reply) → refusals (xs ++ ys) ≡ refusals xs + refusals ys
refusals-append xs ys =
    rw (filter-append is_no_memory xs ys) (length-append (filter is_no_memory xs) (filter is_no_memory ys))

pub spent_none : (state : State) (n : Work) → IsSpent state state [] (work 0 0) n n
spent_none state n = record { rises = omega arith; evals = omega arith; bytes = λ none. omega arith }

pub spent_append : (old mid new : State) (replies later : List Reply) (most more k m n : Work)
    → IsSpent old mid replies most k m → IsSpent mid new later more m n
    → IsSpent old new (replies ++ later) (both most more) k n
spent_append old mid new replies later most more k m n first next = record {
  rises = omega (arith, first.rises, next.rises);
  evals = omega (arith, first.evals, next.evals);
  bytes = λ none. omega (
    arith,
    first.bytes (omega (arith, none, refusals-append replies later)),
    next.bytes (omega (arith, none, refusals-append replies later)),
  );
}

-- ---- one line

-- What a command took is what it may take.
pub record Took (old new : State) (command : Result Command Refusal) (said : Reply) (k n : Work) : Type 0 where
  pub own : Work
  pub evals : MayEvaluate old command said own.evals
  pub bytes : MayRead old command own.bytes
  pub spent : IsSpent old new (said ∷ []) own k n

-- Nothing was run.
pub none_counted : (state : State) (command : Result Command Refusal) (fault : NoMemory) (count : ℕ)
    → CountsCommand {A = Stepped} (Err fault) state command state count count
none_counted state (Ok (decide claim scope)) fault count = (refl, 0, omega arith, inl refl)
none_counted state (Ok (ends hosts scope)) fault count = (refl, 0, omega arith, inl refl)
none_counted state command fault count = (omega arith, omega arith)

module _ (old new : State) (k n : Work) where
  -- Candidates were run.
  spent_runs : (said : Reply) (May : ℕ → Type 0) (counts : CountsRuns May old new k.evals n.evals)
      → IsSpent old new (said ∷ []) (work counts.1 n.bytes) k n
  spent_runs said May counts = record {
    rises = omega (arith, counts.2);
    evals = omega (arith, counts.2, counts.0);
    bytes = λ none. omega arith;
  }

  -- No memory was found for it.
  pub took_refused : (command : Result Command Refusal) (fault : NoMemory) → new ≡ old
      → CountsCommand {A = Stepped} (Err fault) old command new k.evals n.evals → Took old new command no_memory k n
  took_refused (Ok (decide claim scope)) fault same counts = record {
    own = work counts.1 n.bytes;
    evals = counts.3;
    bytes = tt;
    spent = spent_runs no_memory (MayTry old claim scope) counts;
  }
  took_refused (Ok (ends hosts scope)) fault same counts = record {
    own = work counts.1 n.bytes;
    evals = counts.3;
    bytes = tt;
    spent = spent_runs no_memory (MayFollow old hosts scope) counts;
  }
  took_refused (Ok (follow request hosts)) fault same counts = record {
    own = work (MOST_STEPS + 1) n.bytes;
    evals = refl;
    bytes = tt;
    spent = record {
      rises = counts.0;
      evals = omega (arith, counts.1, ap (λ s. s.evaluations) same);
      bytes = λ none. absurd (omega (arith, none));
    };
  }
  took_refused (Ok (verify claim scope cells)) fault same counts = record {
    own = work 0 n.bytes;
    evals = refl;
    bytes = tt;
    spent = record {
      rises = counts.0;
      evals = omega (arith, counts.1, ap (λ s. s.evaluations) same);
      bytes = λ none. absurd (omega (arith, none));
    };
  }
  took_refused command fault same counts = record {
    own = work (command_evals command) (command_bytes old command);
    evals = refl;
    bytes = refl;
    spent = record {
      rises = counts.0;
      evals = omega (arith, counts.1, ap (λ s. s.evaluations) same);
      bytes = λ none. absurd (omega (arith, none));
    };
  }

  -- It was answered.
  pub took_answered : (command : Result Command Refusal) (said : Reply) (stepped : Stepped)
      → CountsCommand (Ok stepped) old command new k.evals n.evals → ReadsCommand old command k.bytes n.bytes
      → Took old new command said k n
  took_answered (Ok (decide claim scope)) said stepped counts reads = record {
    own = work counts.1 n.bytes;
    evals = counts.3;
    bytes = tt;
    spent = spent_runs said (MayTry old claim scope) counts;
  }
  took_answered (Ok (ends hosts scope)) said stepped counts reads = record {
    own = work counts.1 n.bytes;
    evals = counts.3;
    bytes = tt;
    spent = spent_runs said (MayFollow old hosts scope) counts;
  }
  took_answered (Ok (follow request hosts)) said stepped counts reads = record {
    own = work (if is_no_memory said then MOST_STEPS + 1 else 0) n.bytes;
    evals = refl;
    bytes = tt;
    spent = record { rises = counts.0; evals = omega (arith, counts.2); bytes = λ none. omega arith };
  }
  took_answered (Ok (verify claim scope cells)) said stepped counts reads = record {
    own = work (if is_no_memory said then 0 else 0) n.bytes;
    evals = refl;
    bytes = tt;
    spent = record { rises = counts.0; evals = omega (arith, counts.2); bytes = λ none. omega arith };
  }
  took_answered command said stepped counts reads = record {
    own = work (if is_no_memory said then command_evals command else 0) (command_bytes old command);
    evals = refl;
    bytes = refl;
    spent = record { rises = counts.0; evals = omega (arith, counts.2); bytes = λ none. reads };
  }

module _ (old new : State) (line : List ℕ) (a b : Option (List ℕ)) (k n : Work) where
  -- The line of the fixed reply was written, whole or in part.
  module _ {fault : NoMemory} (same : new ≡ old)
      (counts : CountsCommand {A = Stepped} (Err fault) old (command_of line) new k.evals n.evals) where
    refused : Took old new (command_of line) no_memory k n
    refused = took_refused old new k n (command_of line) fault same counts

    pub answers_no_memory : Appends a b (codes "{\"no_memory\":true}\n") → AnswersLine old new line a b k n
    answers_no_memory wrote =
        record {
          reply = no_memory;
          turns = inl (refl, same);
          writes = rw no_memory_printed wrote;
          own = refused.own;
          takes = record { evals = refused.evals; bytes = refused.bytes };
          spent = refused.spent;
        }

    pub answers_no_memory_in_part : AppendsFront a b (codes "{\"no_memory\":true}\n")
        → AnswersInPart old new line a b k n
    answers_no_memory_in_part wrote =
        record {
          reply = no_memory;
          turns = inl (refl, same);
          writes = rw no_memory_printed wrote;
          own = refused.own;
          takes = record { evals = refused.evals; bytes = refused.bytes };
          spent = refused.spent;
        }

  -- So was that of another reply.
  module _ (stepped : Stepped) (gave : (said : Reply) × Says said stepped × LineTurn old line said new)
      (counts : CountsCommand (Ok stepped) old (command_of line) new k.evals n.evals)
      (few : ReadsCommand old (command_of line) k.bytes n.bytes) where
    answered : Took old new (command_of line) gave.0 k n
    answered = took_answered old new k n (command_of line) gave.0 stepped counts few

    pub answers_stepped : Appends a b stepped.line → AnswersLine old new line a b k n
    answers_stepped wrote = record {
      reply = gave.0;
      turns = inr gave.2;
      writes = rw (← gave.1.line) wrote;
      own = answered.own;
      takes = record { evals = answered.evals; bytes = answered.bytes };
      spent = answered.spent;
    }

    pub answers_stepped_in_part : AppendsFront a b stepped.line → AnswersInPart old new line a b k n
    answers_stepped_in_part wrote = record {
      reply = gave.0;
      turns = inr gave.2;
      writes = rw (← gave.1.line) wrote;
      own = answered.own;
      takes = record { evals = answered.evals; bytes = answered.bytes };
      spent = answered.spent;
    }

-- ---- several lines

-- Lines behind an `end` have no replies.
ended_answers : (state : State) (lines : List (List ℕ)) → state.ended ≡ true
    → AnswersTaking state lines [] state (work 0 0)
ended_answers state [] ended = (refl, refl, refl)
ended_answers state (line ∷ lines) ended = inl (ended, refl, refl, refl)

pub answers_ended : (old new : State) (lines : List (List ℕ)) (replies : List Reply) (most : Work)
    → old.ended ≡ true → AnswersTaking old lines replies new most
    → (replies ≡ []) × (new ≡ old) × (most ≡ work 0 0)
answers_ended old new [] replies most ended run = run
answers_ended old new (line ∷ lines) replies most ended (inl none) = (none.1, none.2, none.3)
answers_ended old new (line ∷ lines) replies most ended (inr some) = absurd (true≢false (sym ended ∙ some.0))

-- One run after another.
answers_append : (old mid new : State) (lines more : List (List ℕ)) (replies later : List Reply) (most rest : Work)
    → AnswersTaking old lines replies mid most
    → AnswersTaking mid more later new rest → AnswersTaking old (lines ++ more) (replies ++ later) new
    (both most rest)
answers_append old mid new [] more replies later most rest run next =
    let all : rest ≡ both most rest = none_first rest ∙ ap (λ w. both w rest) (sym run.2) in
    rw run.0 (subst (AnswersTaking old more later new) all
    (subst (λ s. AnswersTaking s more later new rest) run.1 next))
answers_append old mid new (line ∷ lines) more replies later most rest (inl none) next =
    let after =
    answers_ended old new more later rest none.0
    (subst (λ s. AnswersTaking s more later new rest) none.2 next) in
    inl (none.0, rw (none.1, after.0) refl, after.1, λ i. both (none.3 i) (after.2 i))
answers_append old mid new (line ∷ lines) more replies later most rest (inr run) next =
    inr (
      run.0,
      run.1,
      run.2 ++ later,
      run.3,
      run.4,
      both run.5 rest,
      rw run.6 refl,
      ap (λ w. both w rest) run.7 ∙ both_assoc run.4 run.5 rest,
      run.8,
      run.9,
      answers_append run.3 mid new lines more run.2 later run.5 rest run.10 next,
    )

pub lines_none : (state : State) (a : Option (List ℕ)) (n : Work) → AnswersLines state state [] a a n n
lines_none state a n =
    record {
      replies = [];
      most = work 0 0;
      answers = (refl, refl, refl);
      writes = appends_none a;
      spent = spent_none state n;
    }

pub lines_ended : (state : State) (lines : List (List ℕ)) (a : Option (List ℕ)) (n : Work) → state.ended ≡ true
    → AnswersLines state state lines a a n n
lines_ended state lines a n ended =
    record {
      replies = [];
      most = work 0 0;
      answers = ended_answers state lines ended;
      writes = appends_none a;
      spent = spent_none state n;
    }

-- Replies that were written, and then others, of the last one's line a front.
sends_more : (a b c : Option (List ℕ)) (replies later : List Reply) → Appends a b (output replies)
    → SendsInPart b c later → SendsInPart a c (replies ++ later)
sends_more a b c replies later before part = record {
  sent = replies ++ part.sent;
  last = part.last;
  are = ap (λ l. replies ++ l) part.are ∙ sym (append_assoc replies part.sent (part.last ∷ []));
  front = part.front;
  unsent = part.unsent;
  line = part.line;
  written =
      let same = ap (λ l. l ++ part.front) (flat_map-append reply_line replies part.sent)
      ∙ append_assoc (output replies) (output part.sent) part.front in
      subst (Appends a c) (sym same)
      (appends_more a b c (output replies) (output part.sent ++ part.front) before part.written);
}

module _ (old mid : State) (a b c : Option (List ℕ)) (k m n : Work) where
  pub lines_cons : (new : State) (line : List ℕ) (more : List (List ℕ)) → old.ended ≡ false
      → AnswersLine old mid line a b k m → AnswersLines mid new more b c m n
      → AnswersLines old new (line ∷ more) a c k n
  lines_cons new line more going one next = record {
    replies = one.reply ∷ next.replies;
    most = both one.own next.most;
    answers = inr
        (going, one.reply, next.replies, mid, one.own, next.most, refl, refl, one.takes, one.turns, next.answers);
    writes = appends_more a b c _ _ one.writes next.writes;
    spent = spent_append old mid new (one.reply ∷ []) next.replies one.own next.most k m n one.spent next.spent;
  }

  pub lines_append : (new : State) (lines more : List (List ℕ)) → AnswersLines old mid lines a b k m
      → AnswersLines mid new more b c m n → AnswersLines old new (lines ++ more) a c k n
  lines_append new lines more first next = record {
    replies = first.replies ++ next.replies;
    most = both first.most next.most;
    answers = answers_append old mid new lines more first.replies next.replies first.most next.most first.answers
        next.answers;
    writes = rw (flat_map-append reply_line first.replies next.replies)
        (appends_more a b c _ _ first.writes next.writes);
    spent = spent_append old mid new first.replies next.replies first.most next.most k m n first.spent next.spent;
  }

  pub lines_append_in_part : (lines more : List (List ℕ)) → AnswersLines old mid lines a b k m
      → AnswersLinesInPart mid more b c m n → AnswersLinesInPart old (lines ++ more) a c k n
  lines_append_in_part lines more first next = record {
    count = length lines + next.count;
    replies = first.replies ++ next.replies;
    state = next.state;
    most = both first.most next.most;
    answers =
        rw (take-append-add lines more next.count)
        (answers_append old mid next.state lines (take next.count more) first.replies next.replies first.most next.most
        first.answers next.answers);
    writes = sends_more a b c first.replies next.replies first.writes next.writes;
    spent = spent_append old mid next.state first.replies next.replies first.most next.most k m n first.spent
        next.spent;
  }

-- A line that was answered in part is the last.
pub lines_cons_in_part : (old new : State) (line : List ℕ) (more : List (List ℕ)) (a b : Option (List ℕ))
    (k n : Work) → old.ended ≡ false → AnswersInPart old new line a b k n
    → AnswersLinesInPart old (line ∷ more) a b k n
lines_cons_in_part old new line more a b k n going one =
    record {
      count = 1;
      replies = one.reply ∷ [];
      state = new;
      most = both one.own (work 0 0);
      answers = inr
          (going, one.reply, [], new, one.own, work 0 0, refl, refl, one.takes, one.turns, (refl, refl, refl));
      writes = record {
        sent = [];
        last = one.reply;
        are = refl;
        front = one.writes.sent;
        unsent = one.writes.unsent;
        line = one.writes.whole;
        written = one.writes.written;
      };
      spent = spent_append old new new (one.reply ∷ []) [] one.own (work 0 0) k n n one.spent (spent_none new n);
    }
