use Rattle.hc_dfa.proofs.Common.{◌∙◌}
use Rattle.hc_dfa.proofs.Determined.{determined}
use Rattle.hc_dfa.proofs.Cells.{table}
use Rattle.hc_dfa.proofs.determinize.determinized.Goals as goal

pub table_of-requires-clause-key : goal.table_of-requires-clause-key
table_of-requires-clause-key c =
    rw c.from.ensures
    (record { states = c.in_ok-first.ensures.states; closed = c.in_ok-first.ensures.closure.closed })

pub made-requires : goal.made-requires
made-requires c =
    table _ _ _ _ _ _ _ _ c.in_ok-classes.ensures.classes (λ i. c.in_ok-classes.classes.firsts)
    (rw c.firsts.ensures.value at c.in_ok-table.ensures)

pub returns : goal.returns
returns c =
    rw (c.in_ok-smaller.ensures ∙ c.made.ensures)
    (determined c.args.machine.now c.in_ok-classes.classes c.in_ok-table.table.next.items
    c.in_ok-table.table.finals.items
    (record {
      classes = c.in_ok-classes.ensures.classes;
      tells = λ from to b d proper. c.in_ok-classes.ensures.tells from to b d;
      table = rw c.firsts.ensures.value at c.in_ok-table.ensures;
    }))
