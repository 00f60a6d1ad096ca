-- The session: what each line of a script is answered, and what it leaves. Our own choice.
use Rattle.std.specs.Prelude.{◌≡◌, ◌⊎◌, ◌+◌, ◌≤◌, ◌==◌, ℕ, List, [], ◌∷◌, length}
use Rattle.std.specs.Prelude.{take, Bool, true, false, if◌then◌else◌, Option, Some, None, Result, Ok}
use Rattle.std.specs.Prelude.{Err, ⊤}
use Rattle.std.specs.Str.{bytes_eq}
use Rattle.hc_base.specs.declared.codes.TheConstants.{PATH_FORM}
use Rattle.hc_base.specs.declared.place.Refusal.{Refusal}
use Rattle.hc_follow.specs.declared.chain.TheConstants.{MOST_STEPS}
use Rattle.hc_json.specs.Command.{Command, put, list, drop, edit, main, check, ask, follow, decide, ends, verify, stats}
use Rattle.hc_json.specs.Command.{bad_line, command_of, end}
use Rattle.hc_json.specs.Reply as reply
use Rattle.hc_json.specs.Reply.{Reply, reply_line}
use Rattle.hc_json.specs.declared.reply.Done.{Done}
use Rattle.hc_json.specs.declared.reply.Done.TheVariants as what
use Rattle.hc_include.specs.Flat.{bytes_of}
use Rattle.hc_model.specs.World.{World, is_path, put as put_in}
use Rattle.hc_model.specs.declared.config.Config.{Config}
use Rattle.hc_model.specs.declared.outcome.Outcome.{Outcome}
use Rattle.hc_model.specs.declared.outcome.Outcome.TheVariants as outcome
use Rattle.hc_model.specs.declared.request.Request.{Request}
use Rattle.hc_serve.specs.Costs.{looked}
use Rattle.hc_serve.specs.Request.{way}
use Rattle.hc_serve.specs.declared.answer.Answer.{Answer}
use Rattle.hc_steps.specs.Step.{Path}
use Rattle.hc_world.specs.Edits.{IsAccepted, dropped, lines_edited, listed}
pub use Rattle.hc_session.specs.Asking.{answer_of, answer_reply, ask_turn, asked, evaluated, is_kept, kept_answer}
pub use Rattle.hc_session.specs.Asking.{same_request, served}
use Rattle.hc_session.specs.Deciding.{DecideTurn, MayTry}
use Rattle.hc_session.specs.Ending.{EndsTurn, MayFollow}
use Rattle.hc_session.specs.Following.{FollowTurn}
use Rattle.hc_session.specs.Verifying.{VerifyTurn}
pub use Rattle.hc_session.specs.State.{IsTurn, Kept, State, Turn, present, refusing, saying, start}
use Rattle.hc_session.specs.declared.limits.TheConstants.{FORBIDDEN}
use Rattle.hc_session.specs.declared.stepped.Said.{Said}
use Rattle.hc_session.specs.declared.stepped.Said.TheVariants as is
use Rattle.hc_session.specs.declared.stepped.Stepped.{Stepped}
use Rattle.std.specs.declared.alloc.AllocError.{AllocError as NoMemory}

-- ---- what asks nothing of a request

abbrev pub check_reply : Result Config Refusal → Reply
check_reply (Ok found) = reply.configured (length found.hosts)
check_reply (Err refusal) = reply.refused refusal

abbrev pub check_turn : State → Turn
check_turn state = saying state (check_reply (present state))

abbrev pub stats_turn : State → Turn
stats_turn state = saying state (reply.stats state.asks state.evaluations)

abbrev pub end_turn : State → Turn
end_turn state = saying (record state { ended = true }) (reply.done what.End)

-- Another main file forgets the answers.
abbrev pub with_main : State → Path → State
with_main state path = if bytes_eq path state.main then state else record state { main = path; kept = [] }

abbrev pub main_turn : State → Path → Turn
main_turn state path =
    if is_path path then saying (with_main state path) (reply.done what.Main)
    else refusing state (bad_line PATH_FORM [])

-- ---- an edit

-- One that is accepted leaves the files that it gives, and marks what it changed; a refused one leaves all.
abbrev pub EditTurn : Done → State → Result World ℕ → Reply → State → Type 0
EditTurn done old (Ok files) said new =
    (said ≡ reply.done done) × (new ≡ record old { world = new.world })
    × (new.world.files ≡ files) × IsAccepted old.world new.world
EditTurn done old (Err code) said new = IsTurn (refusing old (bad_line code [])) said new

-- ---- a line

-- The reply to a command, and what it leaves.
abbrev pub CommandTurn : State → Result Command Refusal → Reply → State → Type 0
CommandTurn old (Ok (put path text)) said new = EditTurn what.Put old (put_in old.world.files path text) said new
CommandTurn old (Ok (list path kind)) said new = EditTurn what.ListPath old (listed old.world.files path kind) said new
CommandTurn old (Ok (drop path)) said new = EditTurn what.DropPath old (dropped old.world.files path) said new
CommandTurn old (Ok (edit path from to text)) said new =
    EditTurn what.Edit old (lines_edited old.world.files path from to text) said new
CommandTurn old (Ok (main path)) said new = IsTurn (main_turn old path) said new
CommandTurn old (Ok check) said new = IsTurn (check_turn old) said new
CommandTurn old (Ok (ask question)) said new = IsTurn (ask_turn old question (present old)) said new
CommandTurn old (Ok (follow request hosts)) said new = FollowTurn old request hosts said new
CommandTurn old (Ok (decide claim scope)) said new = DecideTurn old claim scope said new
CommandTurn old (Ok (ends hosts scope)) said new = EndsTurn old hosts scope said new
CommandTurn old (Ok (verify claim scope cells)) said new = VerifyTurn old claim scope cells said new
CommandTurn old (Ok stats) said new = IsTurn (stats_turn old) said new
CommandTurn old (Ok end) said new = IsTurn (end_turn old) said new
CommandTurn old (Err refusal) said new = IsTurn (refusing old refusal) said new

abbrev pub LineTurn : State → List ℕ → Reply → State → Type 0
LineTurn old line said new = CommandTurn old (command_of line) said new

-- A line may be answered `no_memory`, with all as before; else it has its reply.
abbrev pub Turns : State → List ℕ → Reply → State → Type 0
Turns old line said new = ((said ≡ reply.no_memory) × (new ≡ old)) ⊎ LineTurn old line said new

-- ---- the bytes that a line may read

-- Those of the texts of the configuration.
abbrev pub site_bytes : State → ℕ
site_bytes state = bytes_of state.world.files state.main

-- Those of the texts that a request looks at.
abbrev pub request_bytes : World → Result Config Refusal → Request → ℕ
request_bytes world (Ok config) request = looked world (way config request)
request_bytes world (Err refusal) request = 0

-- Both, for an answer that is made anew.
abbrev pub new_bytes : State → Request → ℕ
new_bytes state request = site_bytes state + request_bytes state.world.files (present state) request

-- One that is kept takes none.
abbrev pub ask_bytes : State → Request → ℕ
ask_bytes state request = if is_kept state request then 0 else new_bytes state request

-- All but a `check`, an ask, a `follow`, a `decide` and a `verify` read nothing.
unfoldable pub command_bytes : State → Result Command Refusal → ℕ
command_bytes state (Ok check) = site_bytes state
command_bytes state (Ok (ask question)) = ask_bytes state question.request
command_bytes state other = 0

abbrev pub line_bytes : State → List ℕ → ℕ
line_bytes state line = command_bytes state (command_of line)

-- ---- several lines

-- What the counters count: evaluations, and bytes of texts that were read.
pub record Work : Type 0 where
  pub evals : ℕ
  pub bytes : ℕ

abbrev pub work : ℕ → ℕ → Work
work evals bytes = record { evals = evals; bytes = bytes }

abbrev pub both : Work → Work → Work
both one other = work (one.evals + other.evals) (one.bytes + other.bytes)

-- An ask is evaluated at most once, and so is each request of a `follow`.
abbrev pub command_evals : Result Command Refusal → ℕ
command_evals (Ok (ask question)) = 1
command_evals (Ok (follow request hosts)) = MOST_STEPS + 1
command_evals other = 0

abbrev pub is_no_memory : Reply → Bool
is_no_memory reply.no_memory = true
is_no_memory other = false

-- What a command may evaluate beside the evaluations that the session counts: an ask that is answered `no_memory` once,
-- a `follow` that is answered so each request of its chain, and a `decide` the candidates of branches that may break its
-- claim.
abbrev pub MayEvaluate : State → Result Command Refusal → Reply → ℕ → Type 0
MayEvaluate old (Ok (decide claim scope)) said count = MayTry old claim scope count
MayEvaluate old (Ok (ends hosts scope)) said count = MayFollow old hosts scope count
MayEvaluate old command said count = count ≡ (if is_no_memory said then command_evals command else 0)

-- The bytes of the texts that it may read; of a `follow`, a `decide` and a `verify` nothing is said.
abbrev pub MayRead : State → Result Command Refusal → ℕ → Type 0
MayRead old (Ok (follow request hosts)) count = ⊤
MayRead old (Ok (decide claim scope)) count = ⊤
MayRead old (Ok (ends hosts scope)) count = ⊤
MayRead old (Ok (verify claim scope cells)) count = ⊤
MayRead old command count = count ≡ command_bytes old command

pub record MayTake (old : State) (line : List ℕ) (said : Reply) (own : Work) : Type 0 where
  pub evals : MayEvaluate old (command_of line) said own.evals
  pub bytes : MayRead old (command_of line) own.bytes

-- The session may give these replies to these lines, one after another, and leave this state; and the lines may take so
-- much. Lines behind an `end` have no replies.
abbrev pub AnswersTaking : State → List (List ℕ) → List Reply → State → Work → Type 0
AnswersTaking old [] replies new most = (replies ≡ []) × (new ≡ old) × (most ≡ work 0 0)
AnswersTaking old (line ∷ lines) replies new most =
    ((old.ended ≡ true) × (replies ≡ []) × (new ≡ old) × (most ≡ work 0 0))
    ⊎ ((old.ended ≡ false) × (said : Reply) × (rest : List Reply) × (mid : State) × (own : Work) × (more : Work)
    × (replies ≡ said ∷ rest) × (most ≡ both own more) × MayTake old line said own
    × Turns old line said mid × AnswersTaking mid lines rest new more)

abbrev pub Answers : State → List (List ℕ) → List Reply → State → Type 0
Answers old lines replies new = (most : Work) × AnswersTaking old lines replies new most

-- ---- a call

-- What a summary counts of an outcome.
abbrev pub said_of_outcome : Outcome → Said
said_of_outcome (outcome.File path info) = is.File
said_of_outcome outcome.NotFound = is.Missing
said_of_outcome (outcome.Status status) = if status == FORBIDDEN then is.Denied else is.Other
said_of_outcome other = is.Other

abbrev pub said_of : Reply → Said
said_of (reply.outcome outcome) = said_of_outcome outcome
said_of (reply.trailed answer) = said_of_outcome answer.outcome
said_of other = is.Other

-- What is given for a reply: its line, and what a summary counts of it.
pub record Says (said : Reply) (stepped : Stepped) : Type 0 where
  pub line : stepped.line ≡ reply_line said
  pub counted : stepped.said ≡ said_of said
  pub answers : is_no_memory said ≡ false

-- A call gives what a reply is that may come so, and leaves what that leaves; where it finds no memory, all is as
-- before.
abbrev pub Gave : Result Stepped NoMemory → (Reply → State → Type 0) → State → State → Type 0
Gave (Ok stepped) turn old new = (said : Reply) × Says said stepped × turn said new
Gave (Err _) turn old new = new ≡ old

abbrev pub StepTurn : Result Stepped NoMemory → State → List ℕ → State → Type 0
StepTurn result old line new = Gave result (LineTurn old line) old new

-- Which lines read no file: all but a `check`, an `ask` that has to be evaluated, a `follow`, a `decide` and a `verify`.
abbrev pub reads_nothing : State → Result Command Refusal → Bool
reads_nothing state (Ok check) = false
reads_nothing state (Ok (follow request hosts)) = false
reads_nothing state (Ok (decide claim scope)) = false
reads_nothing state (Ok (ends hosts scope)) = false
reads_nothing state (Ok (verify claim scope cells)) = false
reads_nothing state (Ok (ask question)) = is_kept state question.request
reads_nothing state other = true

-- ---- an ask in two parts

-- One whose answer is kept, or none.
abbrev pub kept_turn : State → Request → Bool → Option Stepped → Type 0
kept_turn state request trail None = is_kept state request ≡ false
kept_turn state request trail (Some stepped) =
    (is_kept state request ≡ true)
    × (config : Config) × (present state ≡ Ok config)
    × Says (answer_reply trail state.world.files (answer_of state.world.files config request)) stepped

-- One that is evaluated.
abbrev pub evaluated_turn : State → Request → Bool → Answer → Turn
evaluated_turn state request trail answer =
    saying (evaluated state request answer) (answer_reply trail state.world.files answer)

abbrev pub new_turn : State → Request → Bool → Result Config Refusal → Turn
new_turn state request trail (Ok config) =
    evaluated_turn state request trail (answer_of state.world.files config request)
new_turn state request trail (Err refusal) = refusing state refusal

-- The counter rises by at most so much, and where there is an answer as the evaluations do.
abbrev pub Counts : {A : Type 0} → Result A NoMemory → ℕ → State → State → ℕ → ℕ → Type 0
Counts (Ok made) most old new before after =
    (before ≤ after) × (after ≤ before + most) × (after + old.evaluations ≡ before + new.evaluations)
Counts (Err _) most old new before after = (before ≤ after) × (after ≤ before + most)

-- The runs of a `decide` are no evaluations of the session.
abbrev pub CountsRuns : (ℕ → Type 0) → State → State → ℕ → ℕ → Type 0
CountsRuns May old new before after =
    (new.evaluations ≡ old.evaluations) × (spent : ℕ) × (after ≡ before + spent) × May spent

abbrev pub CountsCommand : {A : Type 0} → Result A NoMemory → State → Result Command Refusal → State → ℕ → ℕ → Type 0
CountsCommand result old (Ok (decide claim scope)) new before after =
    CountsRuns (MayTry old claim scope) old new before after
CountsCommand result old (Ok (ends hosts scope)) new before after =
    CountsRuns (MayFollow old hosts scope) old new before after
CountsCommand result old command new before after = Counts result (command_evals command) old new before after

-- The counter of bytes rises by no more than the command may read; of a `follow`, a `decide` and a `verify` nothing is
-- said.
abbrev pub ReadsCommand : State → Result Command Refusal → ℕ → ℕ → Type 0
ReadsCommand old (Ok (follow request hosts)) before after = ⊤
ReadsCommand old (Ok (decide claim scope)) before after = ⊤
ReadsCommand old (Ok (ends hosts scope)) before after = ⊤
ReadsCommand old (Ok (verify claim scope cells)) before after = ⊤
ReadsCommand old command before after = after ≤ before + command_bytes old command
