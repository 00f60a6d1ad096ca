use Rattle.hc_pat_lang.proofs.Common.{List, ℕ, pattern_of, AreTurns, IsReady, chosen_then, chosen_up_to, chosen_ways}
use Rattle.hc_pat_lang.proofs.Common.{part_ways, Gate, Node, Turns, Ways, turns_then, turns_up_to, Outside}
use Rattle.hc_pat_lang.proofs.nodes.Nodes.+choose.Given as goal

abbrev pub invariant-choose_turns-loop-turn : goal.invariant-choose_turns-loop-turn
invariant-choose_turns-loop-turn l = record {
  all : IsReady l.self.list.items l.turns.all;
  chosen : IsReady l.self.list.items l.turns.chosen;
  turns : (exits : Gate) (base : List Node) (all chosen : List ℕ → Ways Turns)
      → AreTurns all chosen exits base l.initial.self.list.items l.fn.more
      → AreTurns (λ text. turns_then (part_ways Outside text (pattern_of l.body)) l._turn (all text))
      (λ text. chosen_then (part_ways Outside text (pattern_of l.body)) (chosen_ways l.number text (pattern_of l.body))
      l._turn (all text) (chosen text)) exits base l.self.list.items l.turns;
}

abbrev pub invariant-choose_up_to-loop-turn : goal.invariant-choose_up_to-loop-turn
invariant-choose_up_to-loop-turn l =
    AreTurns (λ text. turns_up_to l.fn._greedy (part_ways Outside text (pattern_of l.body)) l._turn)
    (λ text. chosen_up_to l.fn._greedy (part_ways Outside text (pattern_of l.body))
    (chosen_ways l.fn.number text (pattern_of l.body)) l._turn) l.fn.exits l.initial.self.list.items
    l.self.list.items l.turns
