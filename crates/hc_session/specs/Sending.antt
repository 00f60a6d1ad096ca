-- What was written of some bytes.
use Rattle.std.specs.Prelude.{◌≡◌, ℕ, ◌+◌, ◌≤◌, List, [], ◌∷◌, ◌++◌, length, filter, take}
use Rattle.std.specs.Prelude.{Option}
use Rattle.std.specs.List.{flat_map}
use Rattle.std.specs.Io.KnownBytes.{Appends}
use Rattle.hc_json.specs.Reply.{Reply, reply_line}
use Rattle.hc_session.specs.Session.{State, Turns, AnswersTaking, MayTake, Work, is_no_memory}

-- The lines of these replies.
abbrev pub output : List Reply → List ℕ
output replies = flat_map reply_line replies

-- How many lines were answered `no_memory`.
abbrev pub refusals : List Reply → ℕ
refusals replies = length (filter is_no_memory replies)

-- Evaluations have risen by no more than the session counts and the lines may take beside that; and bytes by no more
-- than
-- the lines may take, unless memory was refused for a line.
pub record IsSpent (old new : State) (replies : List Reply) (most before after : Work) : Type 0 where
  pub rises : before.evals ≤ after.evals
  pub evals : after.evals + old.evaluations ≤ before.evals + new.evaluations + most.evals
  pub bytes : refusals replies ≡ 0 → after.bytes ≤ before.bytes + most.bytes

-- A front of these bytes was written.
pub record AppendsFront (old new : Option (List ℕ)) (bytes : List ℕ) : Type 0 where
  pub sent : List ℕ
  pub unsent : List ℕ
  pub whole : bytes ≡ sent ++ unsent
  pub written : Appends old new sent

-- The lines of these replies were written, of the last one's a front.
pub record SendsInPart (old new : Option (List ℕ)) (replies : List Reply) : Type 0 where
  pub sent : List Reply
  pub last : Reply
  pub are : replies ≡ sent ++ last ∷ []
  pub front : List ℕ
  pub unsent : List ℕ
  pub line : reply_line last ≡ front ++ unsent
  pub written : Appends old new (output sent ++ front)

-- A line in a state was answered: all of its reply was written, or a front of it.
pub record AnswersLine (old new : State) (line : List ℕ)
    (written grown : Option (List ℕ)) (before after : Work) : Type 0 where
  pub reply : Reply
  pub turns : Turns old line reply new
  pub writes : Appends written grown (reply_line reply)
  pub own : Work
  pub takes : MayTake old line reply own
  pub spent : IsSpent old new (reply ∷ []) own before after

pub record AnswersInPart (old new : State) (line : List ℕ)
    (written grown : Option (List ℕ)) (before after : Work) : Type 0 where
  pub reply : Reply
  pub turns : Turns old line reply new
  pub writes : AppendsFront written grown (reply_line reply)
  pub own : Work
  pub takes : MayTake old line reply own
  pub spent : IsSpent old new (reply ∷ []) own before after

-- Several lines were answered.
pub record AnswersLines (old new : State) (lines : List (List ℕ))
    (written grown : Option (List ℕ)) (before after : Work) : Type 0 where
  pub replies : List Reply
  pub most : Work
  pub answers : AnswersTaking old lines replies new most
  pub writes : Appends written grown (output replies)
  pub spent : IsSpent old new replies most before after

-- So many of these lines were answered, the last one in part: there the sink failed.
pub record AnswersLinesInPart (old : State) (lines : List (List ℕ))
    (written grown : Option (List ℕ)) (before after : Work) : Type 0 where
  pub count : ℕ
  pub replies : List Reply
  pub state : State
  pub most : Work
  pub answers : AnswersTaking old (take count lines) replies state most
  pub writes : SendsInPart written grown replies
  pub spent : IsSpent old state replies most before after
