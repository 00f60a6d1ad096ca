-- From one point of a run to another.
use Rattle.std.proofs.Common.{◌≡◌, ◌∙◌, ◌+◌, ◌≤◌, ℕ, true, false, List, [], ◌∷◌, ◌++◌}
use Rattle.std.proofs.Common.{fold, sym, ap, subst, refl, inl, inr, append_assoc}
use Rattle.std.proofs.lemmas.List.Sums.{fold-append}
use Rattle.std.specs.Prelude.{Err, Ok}
use Rattle.std.specs.declared.alloc.AllocError.{AllocError as NoMemory}
use Rattle.hc_json.specs.Command.{command_of}
use Rattle.hc_json.specs.Reply.{Reply, no_memory}
use Rattle.hc_session.specs.Session.{AnswersTaking, CountsCommand, LineTurn, ReadsCommand, Work, both, is_no_memory}
use Rattle.hc_session.specs.Session.{said_of, work}
use Rattle.hc_session.specs.declared.stepped.Stepped.{Stepped}
use Rattle.hc_session.proofs.Answering.{answers_ended, both_assoc, none_first, spent_append, spent_none}
use Rattle.hc_session.proofs.Answering.{took_answered, took_refused}
use Rattle.hc_generate.specs.Run.{Goes}
use Rattle.hc_generate.specs.Summary.{counted, refusal_counted, said_counted}
use Rattle.hc_generate.specs.declared.run.Run.{Run}

-- ---- one point after another

pub goes_none : (run : Run) (lines : List (List ℕ)) (n : Work) → Goes run run lines lines n n
goes_none run lines n = record {
  said = [];
  most = work 0 0;
  answers = λ rest end more others. subst (AnswersTaking run.session lines rest end) (none_first more) others;
  counts = refl;
  spent = spent_none run.session n;
}

pub goes_on : (old mid new : Run) (lines between left : List (List ℕ)) (k m n : Work)
    → Goes old mid lines between k m → Goes mid new between left m n → Goes old new lines left k n
goes_on old mid new lines between left k m n first next = record {
  said = first.said ++ next.said;
  most = both first.most next.most;
  answers = λ rest end more others.
      let all = first.answers (next.said ++ rest) end (both next.most more) (next.answers rest end more others) in
      subst (AnswersTaking old.session lines ((first.said ++ next.said) ++ rest) end)
      (sym (both_assoc first.most next.most more)) (rw append_assoc all);
  counts = next.counts ∙ ap (λ t. fold counted t next.said) first.counts
      ∙ sym (fold-append counted old.tally first.said next.said);
  spent = spent_append old.session mid.session new.session first.said next.said first.most next.most k m n first.spent
      next.spent;
}

-- ---- one line

-- Lines behind an `end` have no replies.
pub goes_ended : (run : Run) (line : List ℕ) (left : List (List ℕ)) (n : Work) → run.session.ended ≡ true
    → Goes run run (line ∷ left) left n n
goes_ended run line left n ended = record {
  said = [];
  most = work 0 0;
  answers = λ rest end more others. let none = answers_ended run.session end left rest more ended others in
      inl (ended, none.0, none.1, sym (none_first more) ∙ none.2);
  counts = refl;
  spent = spent_none run.session n;
}

-- A line that has a reply of its own.
pub goes_answered : (old new : Run) (line : List ℕ) (said : Reply) (left : List (List ℕ)) (k n : Work)
    → old.session.ended ≡ false
    → LineTurn old.session line said new.session → is_no_memory said ≡ false
    → new.tally ≡ said_counted old.tally (said_of said)
    → (stepped : Stepped) → CountsCommand (Ok stepped) old.session (command_of line) new.session k.evals n.evals
    → ReadsCommand old.session (command_of line) k.bytes n.bytes → Goes old new (line ∷ left) left k n
goes_answered old new line said left k n going turn answers tally stepped counts few =
    let took = took_answered old.session new.session k n (command_of line) said stepped counts few in
    record {
      said = said ∷ [];
      most = took.own;
      answers = λ rest end more others. inr (
        going,
        said,
        rest,
        new.session,
        took.own,
        more,
        refl,
        refl,
        record { evals = took.evals; bytes = took.bytes },
        inr turn,
        others,
      );
      counts = rw answers tally;
      spent = took.spent;
    }

-- A line for which no memory was found.
pub goes_refused : (old new : Run) (line : List ℕ) (left : List (List ℕ)) (k n : Work)
    → old.session.ended ≡ false → new.session ≡ old.session
    → new.tally ≡ refusal_counted old.tally → (fault : NoMemory)
    → CountsCommand {A = Stepped} (Err fault) old.session (command_of line) new.session k.evals n.evals
    → Goes old new (line ∷ left) left k n
goes_refused old new line left k n going same tally fault counts =
    let took = took_refused old.session new.session k n (command_of line) fault same counts in
    record {
      said = no_memory ∷ [];
      most = took.own;
      answers = λ rest end more others. inr (
        going,
        no_memory,
        rest,
        new.session,
        took.own,
        more,
        refl,
        refl,
        record { evals = took.evals; bytes = took.bytes },
        inl (refl, same),
        others,
      );
      counts = tally;
      spent = took.spent;
    }
