-- How an ask comes to its turn.
use Rattle.std.specs.Prelude.{if◌then◌else◌}
use Rattle.std.proofs.Common.{◌≡◌, ℕ, ◌+◌, ◌≤◌, Bool, true, false, Ok, Err, Result, List, arith, ap}
use Rattle.std.proofs.Common.{sym, refl, ◌∙◌}
use Rattle.std.specs.Result.{OnOk}
use Rattle.std.specs.declared.alloc.AllocError.{AllocError as NoMemory}
use Rattle.hc_base.specs.declared.place.Refusal.{Refusal}
use Rattle.hc_cache.specs.Entries.{Cached, stored}
use Rattle.hc_json.specs.Asked.{Question}
use Rattle.hc_model.specs.World.{World}
use Rattle.hc_model.specs.declared.config.Config.{Config}
use Rattle.hc_model.specs.declared.read.Read.{Read}
use Rattle.hc_model.specs.declared.request.Request.{Request}
use Rattle.hc_serve.specs.declared.answer.Answer.{Answer}
use Rattle.hc_world.specs.Edits.{Edited}
use Rattle.hc_session.specs.Session.{Counts, Gave, IsTurn, Kept, State, answer_of, answer_reply, ask_bytes, ask_turn}
use Rattle.hc_session.specs.Session.{evaluated, evaluated_turn, is_kept, kept_answer, new_bytes, new_turn, present}
use Rattle.hc_session.specs.Session.{request_bytes, same_request, saying, served, site_bytes}
use Rattle.hc_session.specs.declared.stepped.Stepped.{Stepped}

module _ (state : State) (question : Question) where
  -- an answer that is kept
  pub ask_kept : (config : Config) → present state ≡ Ok config → is_kept state question.request ≡ true
      → ask_turn state question (present state)
      ≡ saying (served state)
      (answer_reply question.trail state.world.files (answer_of state.world.files config question.request))
  ask_kept config there kept =
      let answer = answer_of state.world.files config question.request in
      ap (ask_turn state question) there
      ∙ ap (λ (b : Bool). saying (if b then served state else evaluated state question.request answer)
      (answer_reply question.trail state.world.files answer)) kept

  by_config : (built : Result Config Refusal) → is_kept state question.request ≡ false
      → ask_turn state question built ≡ new_turn state question.request question.trail built
  by_config (Ok config) new =
      let answer = answer_of state.world.files config question.request in
      ap (λ (b : Bool). saying (if b then served state else evaluated state question.request answer)
      (answer_reply question.trail state.world.files answer)) new
  by_config (Err refusal) new = refl

  -- and one that is not
  pub ask_new : is_kept state question.request ≡ false → ask_turn state question (present state)
      ≡ new_turn state question.request question.trail (present state)
  ask_new new = by_config (present state) new

-- The turn of an answer that was evaluated.
pub turn_found : (state : State) (request : Request) (trail : Bool) (config : Config) (answer : Answer)
    → present state ≡ Ok config → answer ≡ answer_of state.world.files config request
    → evaluated_turn state request trail answer ≡ new_turn state request trail (present state)
turn_found state request trail config answer there same = ap (evaluated_turn state request trail) same
    ∙ sym (ap (new_turn state request trail) there)

-- What is counted where an answer was evaluated and is kept.
pub counted : (result : Result Stepped NoMemory) (old new : State) (request : Request) (trail : Bool) (answer : Answer)
    (before after : ℕ)
    → Gave result (IsTurn (evaluated_turn old request trail answer)) old new → after ≡ before + 1
    → Counts result 1 old new before after
counted (Ok stepped) old new request trail answer before after gave rises =
    let more = ap (λ (state : State). state.evaluations) gave.2.1 in
    (omega (arith, rises), omega (arith, rises), omega (arith, rises, more))
counted (Err none) old new request trail answer before after gave rises = (omega (arith, rises), omega (arith, rises))

-- What is read for one, where no answer is kept.
pub read_anew : {A : Type 0} (result : Result A NoMemory) (state : State) (world : World)
    (built : Result Config Refusal) (request : Request) (before mid after : ℕ)
    → world ≡ state.world.files → built ≡ present state → mid ≤ before + site_bytes state
    → after ≤ mid + request_bytes world built request
    → OnOk result (after ≤ before + new_bytes state request)
read_anew (Ok made) state world built request before mid after here is site found =
    omega (
      arith,
      site,
      found,
      ap (λ world. request_bytes world built request) here,
      ap (λ built. request_bytes state.world.files built request) is,
    )
read_anew (Err none) state world built request before mid after here is site found = tt

pub read_for : (result : Result Stepped NoMemory) (state : State) (request : Request) (before after : ℕ)
    → is_kept state request ≡ false
    → OnOk result (after ≤ before + new_bytes state request)
    → OnOk result (after ≤ before + ask_bytes state request)
read_for result state request before after isnt few = rw isnt few

-- What is kept behind an answer.
pub kept_as : (cached : Cached Request Answer) (limit : ℕ) (world : Edited) (request : Request) (answer : Answer)
    (reads : List Read) (at : ℕ) (entries : List Kept)
    → cached ≡ record {
      limit = limit;
      entries = stored same_request limit (record { key = request; reads = reads; at = at; value = answer }) entries;
    }
    → reads ≡ answer.reads → at ≡ world.edits
    → cached ≡ record {
      limit = limit;
      entries = stored same_request limit (kept_answer world request answer)
          entries;
    }
kept_as cached limit world request answer reads at entries is same_reads same_at =
    is ∙ (λ i. record {
      limit = limit;
      entries =
          stored same_request limit (record { key = request; reads = same_reads i; at = same_at i; value = answer })
          entries;
    })
