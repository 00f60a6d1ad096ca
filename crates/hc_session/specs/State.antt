-- What a session has, and a line that leaves its files as they are. Our own choice.
use Rattle.std.specs.Prelude.{◌≡◌, ℕ, List, [], Bool, false, Result, codes}
use Rattle.std.specs.FinMap.{empty}
use Rattle.hc_base.specs.declared.place.Refusal.{Refusal}
use Rattle.hc_cache.specs.Entries.{Entry}
use Rattle.hc_json.specs.Reply as reply
use Rattle.hc_json.specs.Reply.{Reply}
use Rattle.hc_kept.specs.Site.{configuration}
use Rattle.hc_model.specs.World.{new_world}
use Rattle.hc_model.specs.declared.config.Config.{Config}
use Rattle.hc_model.specs.declared.request.Request.{Request}
use Rattle.hc_serve.specs.declared.answer.Answer.{Answer}
use Rattle.hc_steps.specs.Step.{Path}
use Rattle.hc_world.specs.Edits.{Edited}

-- ---- what a session has

-- An answer that is kept, by its request.
abbrev pub Kept : Type 0
Kept = Entry Request Answer

-- How many branches a claim may have, the files, the path of the main file, the answers that are kept, how many asks
-- were answered with an outcome, how many of them were evaluated, and whether it has ended.
pub record State : Type 0 where
  pub limit : ℕ
  pub world : Edited
  pub main : Path
  pub kept : List Kept
  pub asks : ℕ
  pub evaluations : ℕ
  pub ended : Bool

-- The path of the main file, until another is named.
abbrev pub main_file : Path
main_file = codes "/etc/httpd/conf/httpd.conf"

abbrev pub start : ℕ → State
start limit = record {
  limit = limit;
  world = record { files = new_world; edits = 0; changes = empty };
  main = main_file;
  kept = [];
  asks = 0;
  evaluations = 0;
  ended = false;
}

-- The configuration that the present files give, or its first refusal.
abbrev pub present : State → Result Config Refusal
present state = configuration state.world.files state.main

-- ---- a line that leaves the files as they are

pub record Turn : Type 0 where
  pub reply : Reply
  pub state : State

abbrev pub IsTurn : Turn → Reply → State → Type 0
IsTurn turn said new = (said ≡ turn.reply) × (new ≡ turn.state)

abbrev pub refusing : State → Refusal → Turn
refusing state refusal = record { reply = reply.refused refusal; state = state }

abbrev pub saying : State → Reply → Turn
saying state said = record { reply = said; state = state }
