use Rattle.hc_pat_lang.proofs.Common.{pattern_of, IsFragment, part_ways, stop, turns_then, turns_up_to}
use Rattle.hc_pat_lang.proofs.nodes.Nodes.+build.Given as goal

abbrev pub invariant-turns-loop-turn : goal.invariant-turns-loop-turn
invariant-turns-loop-turn l =
    IsFragment (λ text. turns_then (part_ways l.fn.part text (pattern_of l.body)) l._turn stop) l.fn.exits
    l.initial.self.list.items l.self.list.items l.gate

abbrev pub invariant-turns_up_to-loop-turn : goal.invariant-turns_up_to-loop-turn
invariant-turns_up_to-loop-turn l =
    IsFragment (λ text. turns_up_to l.fn._greedy (part_ways l.fn.part text (pattern_of l.body)) l._turn) l.fn.exits
    l.initial.self.list.items l.self.list.items l.gate
