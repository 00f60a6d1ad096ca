use Rattle.std.proofs.Common.{◌≡◌, ◌++◌, ℕ, List, [], ◌∷◌, subst, refl, append-nil}
use Rattle.hc_json.specs.Reply.{Reply}
use Rattle.hc_session.proofs.Answering.{none_last}
use Rattle.hc_session.specs.Session.{AnswersTaking, State, Work, both, start, work}
use Rattle.hc_generate.specs.Run.{Takes}
use Rattle.hc_generate.specs.Script.{files_behind, script_of}
use Rattle.hc_generate.specs.Summary.{IsSummary, nothing_said, summary_line}
use Rattle.hc_generate.specs.declared.run.Run.{Run}
use Rattle.hc_generate.specs.declared.step.Step.TheVariants.{Main}
use Rattle.hc_generate.proofs.summaries.told.Goals as goal

-- No line is left.
answered : (old first new : State) (lines : List (List ℕ)) (said : List Reply) (most : Work) → old ≡ first
    → ((rest : List Reply) (end : State) (more : Work) → AnswersTaking new [] rest end more
    → AnswersTaking old lines (said ++ rest) end (both most more))
    → AnswersTaking first lines said new most
answered old first new lines said most same answers =
    subst (λ s. AnswersTaking s lines said new most) same
    (subst (AnswersTaking old lines said new) (none_last most)
    (subst (λ r. AnswersTaking old lines r new (both most (work 0 0))) (append-nil said)
    (answers [] new (work 0 0) (refl, refl, refl))))

-- A run from the start that leaves no step.
summed : (old new : Run) (limit seed x : ℕ) (k n : Work) (line : List ℕ) → (old.session ≡ start limit)
    × (old.tally ≡ nothing_said) → x ≡ seed
    → Takes old new (Main ∷ files_behind x) [] k n → line ≡ summary_line new.session new.tally
    → IsSummary limit seed line k n
summed old new limit seed x k n line fresh same goes told = record {
  replies = goes.said;
  state = new.session;
  most = goes.most;
  answers = subst (λ s. AnswersTaking (start limit) (script_of s) goes.said new.session goes.most) same
      (answered _ (start limit) _ (script_of x) goes.said goes.most fresh.0 goes.answers);
  told = rw (← fresh.1, ← goes.counts) told;
  spent = rw (← fresh.0) goes.spent;
}

pub returns : goal.returns
returns g c = λ limit begins.
    summed _ _ limit _ _ _ _ _ (begins, c.requires.fresh) c.new.ensures c.take_all.ensures c.tell.ensures
