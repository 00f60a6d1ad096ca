-- What the run of a script that a seed makes comes to. Our own choice.
use Rattle.std.specs.Prelude.{◌≡◌, ℕ, ◌+◌, List, ◌++◌, if◌then◌else◌, fold, codes, decimal}
use Rattle.hc_json.specs.Reply.{Reply}
use Rattle.hc_session.specs.Sending.{IsSpent}
use Rattle.hc_session.specs.Session.{AnswersTaking, State, Work, is_no_memory, said_of, start}
use Rattle.hc_session.specs.declared.stepped.Said.{Said}
use Rattle.hc_session.specs.declared.stepped.Said.TheVariants as is
use Rattle.hc_generate.specs.Script.{script_of}
use Rattle.hc_generate.specs.declared.tally.Tally.{Tally}

-- ---- what the replies say

-- How many served a file, found nothing, were forbidden, and found no memory.
abbrev pub nothing_said : Tally
nothing_said = record { files = 0; missing = 0; denied = 0; no_memory = 0 }

abbrev pub said_counted : Tally → Said → Tally
said_counted tally is.File = record tally { files = tally.files + 1 }
said_counted tally is.Missing = record tally { missing = tally.missing + 1 }
said_counted tally is.Denied = record tally { denied = tally.denied + 1 }
said_counted tally is.Other = tally

abbrev pub refusal_counted : Tally → Tally
refusal_counted tally = record tally { no_memory = tally.no_memory + 1 }

abbrev pub counted : Tally → Reply → Tally
counted tally reply = if is_no_memory reply then refusal_counted tally else said_counted tally (said_of reply)

abbrev pub tally_of : List Reply → Tally
tally_of replies = fold counted nothing_said replies

-- How many replies were counted.
abbrev pub total : Tally → ℕ
total tally = tally.files + tally.missing + tally.denied + tally.no_memory

-- ---- the line

-- A number behind its name.
abbrev pub member_text : List ℕ → ℕ → List ℕ
member_text name count = name ++ decimal count

-- Compact JSON, and LF.
unfoldable pub summary_line : State → Tally → List ℕ
summary_line state tally =
    (((((member_text (codes "{\"summary\":{\"asks\":") state.asks
    ++ member_text (codes ",\"denied\":") tally.denied)
    ++ member_text (codes ",\"evaluations\":") state.evaluations)
    ++ member_text (codes ",\"files\":") tally.files)
    ++ member_text (codes ",\"missing\":") tally.missing)
    ++ member_text (codes ",\"no_memory\":") tally.no_memory)
    ++ codes "}}\n"

-- The line is the summary of a run of the script that the seed makes, in a session in which a claim may have so many
-- branches; and the counters have risen by no more than that run gives.
pub record IsSummary (limit seed : ℕ) (line : List ℕ) (before after : Work) : Type 0 where
  pub replies : List Reply
  pub state : State
  pub most : Work
  pub answers : AnswersTaking (start limit) (script_of seed) replies state most
  pub told : line ≡ summary_line state (tally_of replies)
  pub spent : IsSpent (start limit) state replies most before after
