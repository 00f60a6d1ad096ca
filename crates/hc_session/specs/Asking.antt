-- What an ask is answered, and what it leaves. Our own choice.
use Rattle.std.specs.Prelude.{ℕ, ◌+◌, List, length, take, Bool, true, false, if◌then◌else◌, is_some, Result, Ok, Err}
use Rattle.hc_base.specs.declared.place.Refusal.{Refusal}
use Rattle.hc_cache.specs.Entries.{stored, value_of}
use Rattle.hc_json.specs.Asked.{Question}
use Rattle.hc_json.specs.Reply as reply
use Rattle.hc_json.specs.Reply.{Reply}
use Rattle.hc_json.specs.Trail.{trailed_of}
use Rattle.hc_model.specs.World.{World}
use Rattle.hc_model.specs.declared.config.Config.{Config}
use Rattle.hc_model.specs.declared.request.Request.{Request}
use Rattle.hc_model.specs.contracts.request.RequestPartialEq.TheImpl.{ghosts as requests}
use Rattle.hc_serve.specs.Request.{received, reads_of, whole_run}
use Rattle.hc_serve.specs.declared.answer.Answer.{Answer}
use Rattle.hc_serve.specs.declared.answer.TheConstants.{LONGEST_TRAIL}
use Rattle.hc_world.specs.Edits.{Edited}
use Rattle.hc_session.specs.State.{Kept, State, Turn, refusing}
use Rattle.hc_session.specs.declared.limits.TheConstants.{KEPT_ANSWERS}

-- What a request receives of the present files, and how that came.
abbrev pub answer_of : World → Config → Request → Answer
answer_of world config request = record {
  outcome = received world config request;
  events = length (whole_run world config request).events;
  trail = take LONGEST_TRAIL (whole_run world config request).events;
  reads = reads_of world config request;
}

-- The outcome alone, or with its trail.
abbrev pub answer_reply : Bool → World → Answer → Reply
answer_reply false world answer = reply.outcome answer.outcome
answer_reply true world answer = reply.trailed (trailed_of world answer.outcome answer.events answer.reads answer.trail)

abbrev pub same_request : Request → Request → Bool
same_request = requests.eq

-- An answer to the same request is kept, and no later edit changed what it rests on.
abbrev pub is_kept : State → Request → Bool
is_kept state request = is_some (value_of same_request state.world request state.kept)

-- An answer, as it is kept: its edits are all so far.
abbrev pub kept_answer : Edited → Request → Answer → Kept
kept_answer world request answer = record { key = request; reads = answer.reads; at = world.edits; value = answer }

abbrev pub served : State → State
served state = record state { asks = state.asks + 1 }

abbrev pub evaluated : State → Request → Answer → State
evaluated state request answer = record state {
  kept = stored same_request KEPT_ANSWERS (kept_answer state.world request answer) state.kept;
  asks = state.asks + 1;
  evaluations = state.evaluations + 1;
}

abbrev pub asked : State → Request → Answer → State
asked state request answer = if is_kept state request then served state else evaluated state request answer

-- The answer is that of the present files, whether it is kept or evaluated.
abbrev pub answer_turn : State → Question → Answer → Turn
answer_turn state question answer = record {
  reply = answer_reply question.trail state.world.files answer;
  state = asked state question.request answer;
}

abbrev pub ask_turn : State → Question → Result Config Refusal → Turn
ask_turn state question (Ok config) = answer_turn state question (answer_of state.world.files config question.request)
ask_turn state question (Err refusal) = refusing state refusal
