use Rattle.hc_match.proofs.Common.{ℕ, ◌<◌, ◌≤◌, List, length, pattern_of, stop, turns_then, turns_up_to}
use Rattle.hc_match.proofs.Common.{Compiles, kept_ways}
use Rattle.hc_match.proofs.program.Program.+compile.Given as goal

abbrev pub invariant-turns-loop : goal.invariant-turns-loop
invariant-turns-loop l =
    (l.place < length l.self.steps.items) × (length l.fn.self.steps.items ≤ length l.self.steps.items)
    × ((text : List ℕ)
    → Compiles text l.fn.self.steps.items l.self.steps.items
    (turns_then (kept_ways text (pattern_of l.body.value)) l.counter stop) l.next l.place)

abbrev pub invariant-turns_up_to-loop : goal.invariant-turns_up_to-loop
invariant-turns_up_to-loop l =
    (l.place < length l.self.steps.items) × (length l.fn.self.steps.items ≤ length l.self.steps.items)
    × ((text : List ℕ)
    → Compiles text l.fn.self.steps.items l.self.steps.items
    (turns_up_to l.greedy (kept_ways text (pattern_of l.body.value)) l.counter) l.next l.place)
