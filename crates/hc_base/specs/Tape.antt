-- What a source and a sink in memory are seen as.
use Rattle.std.specs.Prelude.{ℕ, ◌+◌, ◌-◌, ◌^◌, min, List, [], length, Bool, not, ◌&&◌, ◌||◌}
use Rattle.std.specs.Prelude.{◌==◌}
use Rattle.std.specs.List.{list_any}

-- A source: the bytes still to come, the numbers of the calls that are to fail, and how many
-- calls there were and how many failed.
pub record SourceTape : Type 0 where
  pub left : List ℕ
  pub failing : List ℕ
  pub calls : ℕ
  pub faults : ℕ

-- A sink: the bytes written, at most how many a call takes and the sink has room for, and the
-- calls as in a source.
pub record SinkTape : Type 0 where
  pub held : List ℕ
  pub most : ℕ
  pub room : ℕ
  pub failing : List ℕ
  pub calls : ℕ
  pub faults : ℕ

-- The number of the next call, where numbers stop at the last value of a `u64`.
abbrev pub next_call : ℕ → ℕ
next_call calls = min (calls + 1) (2 ^ 64 - 1)

-- The next call is to fail.
abbrev pub is_due : List ℕ → ℕ → Bool
is_due failing calls = list_any (λ n. n == next_call calls) failing

-- How many bytes of this piece the sink has room for in one call.
abbrev pub taken_of : SinkTape → List ℕ → ℕ
taken_of tape piece = min (length piece) (min tape.most (tape.room - length tape.held))

-- The sink fails at this piece: the call is to fail, or there is no room for any of the piece.
abbrev pub is_refused : SinkTape → List ℕ → Bool
is_refused tape piece = is_due tape.failing tape.calls || (not (length piece == 0) && (taken_of tape piece == 0))

abbrev pub new_sink : ℕ → ℕ → List ℕ → SinkTape
new_sink most room failing =
    record { held = []; most = most; room = room; failing = failing; calls = 0; faults = 0 }
