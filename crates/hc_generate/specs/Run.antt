-- A run between two of its points.
use Rattle.std.specs.Prelude.{◌≡◌, ℕ, List, ◌++◌, fold, map}
use Rattle.hc_json.specs.Reply.{Reply}
use Rattle.hc_session.specs.Sending.{IsSpent}
use Rattle.hc_session.specs.Session.{AnswersTaking, State, Work, both}
use Rattle.hc_generate.specs.Lines.{line_of}
use Rattle.hc_generate.specs.Summary.{counted}
use Rattle.hc_generate.specs.declared.run.Run.{Run}
use Rattle.hc_generate.specs.declared.step.Step.{Step}

-- Of the lines that come behind the one point, these are left at the other: the replies in between, with any replies to
-- those that are left, are replies to all.
pub record Goes (old new : Run) (lines left : List (List ℕ)) (before after : Work) : Type 0 where
  pub said : List Reply
  pub most : Work
  pub answers : (rest : List Reply) (end : State) (more : Work) → AnswersTaking new.session left rest end more
      → AnswersTaking old.session lines (said ++ rest) end (both most more)
  pub counts : new.tally ≡ fold counted old.tally said
  pub spent : IsSpent old.session new.session said most before after

-- The same of steps.
abbrev pub Takes : Run → Run → List Step → List Step → Work → Work → Type 0
Takes old new steps left before after = Goes old new (map line_of steps) (map line_of left) before after
