use Rattle.hc_session.proofs.Common.{◌≡◌, ◌≤◌, ℕ, List, ◌++◌, length, Appends}
use Rattle.hc_session.proofs.serve.send.Given as goal

-- What was sent and what is left are the piece.
abbrev pub invariant-loop-rest : goal.invariant-loop-rest
invariant-loop-rest g l = (sent : List ℕ) × (l.piece ≡ sent ++ l.rest)
    × Appends (g.K.Sink.written l.initial.sink) (g.K.Sink.written l.sink) sent
    × (g.K.Sink.faults l.initial.sink ≤ g.K.Sink.faults l.sink)

abbrev pub decreases-loop-rest : goal.decreases-loop-rest
decreases-loop-rest g l = length l.rest
