-- A run without faults is the session's.
use Rattle.hc_session.proofs.Common.{◌≡◌, ◌≢◌, ◌⊎◌, ℕ, ◌<◌, List, [], ◌∷◌, length, Bool}
use Rattle.hc_session.proofs.Common.{true, Option, Some, None, refl, arith, inl, inr, subst, Appends, AnswersTaking}
use Rattle.hc_session.proofs.Common.{State, Work, whole_lines, rest_of, output, LINE_LIMIT, SCRIPT_LIMIT}
use Rattle.std.proofs.lemmas.Bool.{lt-ltb, le-leb, lt-leb}
use Rattle.hc_json.specs.Reply.{Reply}
use Rattle.hc_session.specs.Conversation.{IsFull, Served, Completes, EndsWith, Sends, answered_lines, status_of}
use Rattle.hc_session.specs.declared.status.Status.{Status}
use Rattle.hc_session.specs.declared.status.Status.TheVariants.{Done, Words, ReadFault, WriteFault, NoMemory, CutLine}
use Rattle.hc_session.specs.declared.status.Status.TheVariants.{LineTooLong, ScriptTooLong}

some_left : (bytes : List ℕ) → bytes ≢ [] → 0 < length bytes
some_left [] isnt = absurd (isnt refl)
some_left (b ∷ bs) isnt = omega arith

-- The bytes taken were all, or up to a limit or to an `end`; and the status says which.
pub record Ending (left taken : List ℕ) (ended : Bool) (status : Status) : Type 0 where
  pub up_to : (left ≡ []) ⊎ IsFull taken ⊎ (ended ≡ true)
  pub is : status ≡ status_of ended taken

module _ (left taken : List ℕ) (ended : Bool) where
  ending : (status : Status) → EndsWith status (Some left) taken ended → status ≢ ReadFault
      → status ≢ WriteFault → Ending left taken ended status
  ending Done (inl over) read write = record { up_to = inr (inr over); is = rw over refl }
  ending Done (inr all) read write =
      record { up_to = inl all.0; is = rw (all.3, all.1, lt-leb SCRIPT_LIMIT (length taken) all.2.1) refl }
  ending CutLine all read write = record {
    up_to = inl all.0;
    is = rw (
      all.3,
      lt-leb LINE_LIMIT (length (rest_of taken)) all.2.0,
      lt-leb SCRIPT_LIMIT (length taken) all.2.1,
      lt-ltb 0 (length (rest_of taken)) (some_left (rest_of taken) all.1),
    ) refl;
  }
  ending LineTooLong long read write =
      record {
        up_to = inr (inl (inl long.0));
        is = rw (long.1, le-leb LINE_LIMIT (length (rest_of taken)) long.0)
            refl;
      }
  ending ScriptTooLong long read write = record {
    up_to = inr (inl (inr long.1));
    is = rw (long.2, lt-leb LINE_LIMIT (length (rest_of taken)) long.0, le-leb SCRIPT_LIMIT (length taken) long.1) refl;
  }
  ending ReadFault ends read write = absurd (read refl)
  ending WriteFault ends read write = absurd (write refl)
  ending Words ends read write = absurd ends
  ending NoMemory ends read write = absurd ends

all_written : (status : Status) (old new : Option (List ℕ)) (replies : List Reply) → Sends status old new replies
    → status ≢ WriteFault → Appends old new (output replies)
all_written WriteFault old new replies writes write = absurd (write refl)
all_written status old new replies writes write = writes

all_lines : (status : Status) (count : ℕ) (lines : List (List ℕ)) → status ≢ WriteFault
    → answered_lines status count lines ≡ lines
all_lines WriteFault count lines write = absurd (write refl)
all_lines status count lines write = refl

pub completes : (begin : State) (left remaining written grown : Option (List ℕ)) (before after : Work) (status : Status)
    → Served begin left remaining written grown before after status → status ≢ ReadFault → status ≢ WriteFault
    → Completes begin left written grown status
completes begin None remaining written grown before after status served read write = tt
completes begin (Some input) None written grown before after status served read write = absurd served.takes
completes begin (Some input) (Some left) written grown before after status served read write =
    let end = ending left served.taken served.state.ended status served.ends read write in (
      output served.replies,
      all_written status written grown served.replies served.writes write,
      record {
        taken = served.taken;
        replies = served.replies;
        state = served.state;
        takes = record { left = left; front = served.takes; within = served.within; up_to = end.up_to };
        answers = (
          served.most,
          subst (λ lines. AnswersTaking begin lines served.replies served.state served.most)
              (all_lines status served.count (whole_lines served.taken) write) served.answers,
        );
        writes = refl;
        ends = end.is;
      },
    )
