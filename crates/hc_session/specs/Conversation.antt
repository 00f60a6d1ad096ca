-- What a run of the program takes and writes. Our own choice.
use Rattle.std.specs.Prelude.{◌≡◌, ◌≢◌, ◌⊎◌, ℕ, ◌<◌, ◌≤◌, List, [], ◌∷◌, ◌++◌}
use Rattle.std.specs.Prelude.{length, take}
use Rattle.std.specs.Prelude.{Bool, true, false, nat_lt, nat_le, if◌then◌else◌, Option, ⊤, IfSome}
use Rattle.std.specs.Io.KnownBytes.{Consumes, Appends, IsAtEnd}
use Rattle.hc_base.specs.Lines.{whole_lines, rest_of}
use Rattle.hc_json.specs.Reply.{Reply}
use Rattle.hc_session.specs.Session.{Answers, AnswersTaking, State, Work}
use Rattle.hc_session.specs.Sending.{output, IsSpent, SendsInPart}
use Rattle.hc_session.specs.declared.limits.TheConstants.{LINE_LIMIT, SCRIPT_LIMIT}
use Rattle.hc_session.specs.declared.status.Status.{Status}
use Rattle.hc_session.specs.declared.status.Status.TheVariants.{Done, Words, ReadFault, WriteFault}
use Rattle.hc_session.specs.declared.status.Status.TheVariants.{NoMemory, CutLine, LineTooLong, ScriptTooLong}

-- After these bytes more are taken: the line that they end in is below its limit, and so is the
-- script.
abbrev pub IsOpen : List ℕ → Type 0
IsOpen taken = (length (rest_of taken) < LINE_LIMIT) × (length taken < SCRIPT_LIMIT)

-- After these bytes no more are taken.
abbrev pub IsFull : List ℕ → Type 0
IsFull taken = (LINE_LIMIT ≤ length (rest_of taken)) ⊎ (SCRIPT_LIMIT ≤ length taken)

-- More was taken after each shorter front of these bytes.
abbrev pub StaysOpen : List ℕ → Type 0
StaysOpen taken = (count : ℕ) → count < length taken → IsOpen (take count taken)

-- ---- a run without faults

-- The bytes that a session takes of its input: all of them, those up to a limit, or those of the last read before
-- it had ended.
pub record Takes (input taken : List ℕ) (ended : Bool) : Type 0 where
  pub left : List ℕ
  pub front : input ≡ taken ++ left
  pub within : StaysOpen taken
  pub up_to : (left ≡ []) ⊎ IsFull taken ⊎ (ended ≡ true)

-- How the input ends where no `end` was answered: a line or the script reached its limit, the last line was cut off, or
-- all lines were whole.
abbrev pub status_of_bytes : List ℕ → Status
status_of_bytes taken =
    if nat_le LINE_LIMIT (length (rest_of taken)) then LineTooLong
    else (if nat_le SCRIPT_LIMIT (length taken) then ScriptTooLong
    else (if nat_lt 0 (length (rest_of taken)) then CutLine
    else Done))

abbrev pub status_of : Bool → List ℕ → Status
status_of ended taken = if ended then Done else status_of_bytes taken

-- A session that begins so answers an input with this output, and ends with this status.
pub record IsSession (begin : State) (input bytes : List ℕ) (status : Status) : Type 0 where
  pub taken : List ℕ
  pub replies : List Reply
  pub state : State
  pub takes : Takes input taken state.ended
  pub answers : Answers begin (whole_lines taken) replies state
  pub writes : bytes ≡ output replies
  pub ends : status ≡ status_of state.ended taken

-- Where the source tells its bytes, a run wrote what the session answers to them.
abbrev pub Completes : State → Option (List ℕ) → Option (List ℕ) → Option (List ℕ) → Status → Type 0
Completes begin left written grown status =
    IfSome left (λ input. (bytes : List ℕ) × Appends written grown bytes × IsSession begin input bytes status)

-- ---- any run

-- The lines that were answered: all, unless the sink failed.
abbrev pub answered_lines : Status → ℕ → List (List ℕ) → List (List ℕ)
answered_lines WriteFault count lines = take count lines
answered_lines status count lines = lines

-- The lines of the replies were written; after a fault of the sink, of the last one's a front.
abbrev pub Sends : Status → Option (List ℕ) → Option (List ℕ) → List Reply → Type 0
Sends WriteFault old new replies = SendsInPart old new replies
Sends status old new replies = Appends old new (output replies)

-- When a run ends so, with these bytes taken and these left.
abbrev pub EndsWith : Status → Option (List ℕ) → List ℕ → Bool → Type 0
EndsWith Done left taken ended = (ended ≡ true)
    ⊎ (IsAtEnd left × (rest_of taken ≡ []) × IsOpen taken × (ended ≡ false))
EndsWith CutLine left taken ended = IsAtEnd left × (rest_of taken ≢ []) × IsOpen taken × (ended ≡ false)
EndsWith LineTooLong left taken ended = (LINE_LIMIT ≤ length (rest_of taken)) × (ended ≡ false)
EndsWith ScriptTooLong left taken ended =
    (length (rest_of taken) < LINE_LIMIT) × (SCRIPT_LIMIT ≤ length taken) × (ended ≡ false)
EndsWith ReadFault left taken ended = IsOpen taken × (ended ≡ false)
EndsWith WriteFault left taken ended = ⊤
EndsWith Words left taken ended = ⊥
EndsWith NoMemory left taken ended = ⊥

-- How an input ends behind these bytes of its last line.
abbrev pub status_at_end : List ℕ → Status
status_at_end [] = Done
status_at_end (b ∷ bs) = CutLine

-- A run that served its source, of a session that begins so: what was written are the session's replies to the whole lines of the bytes taken, up to
-- an `end`, or to so many of them, where the sink failed at the last one; and the counters have risen by no more than
-- these
-- lines give.
pub record Served (begin : State) (left remaining written grown : Option (List ℕ)) (before after : Work)
    (status : Status) : Type 0 where
  pub taken : List ℕ
  pub count : ℕ
  pub replies : List Reply
  pub state : State
  pub takes : Consumes left remaining taken
  pub within : StaysOpen taken
  pub most : Work
  pub answers : AnswersTaking begin (answered_lines status count (whole_lines taken)) replies state most
  pub writes : Sends status written grown replies
  pub spent : IsSpent begin state replies most before after
  pub ends : EndsWith status remaining taken state.ended
