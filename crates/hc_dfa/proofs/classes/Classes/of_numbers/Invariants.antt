use Rattle.hc_dfa.proofs.Grouped.{IsGrouping}
use Rattle.hc_dfa.proofs.classes.Classes.of_numbers.Given as goal

abbrev pub invariant-loop-byte : goal.invariant-loop-byte
invariant-loop-byte l = IsGrouping l.numbers l.byte (record { classes = l.classes.items; firsts = l.firsts.items })
