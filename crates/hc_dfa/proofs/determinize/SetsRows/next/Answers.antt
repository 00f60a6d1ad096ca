use Rattle.hc_dfa.proofs.determinize.SetsRows.next.Goals as goal

pub returns-clause-leads : goal.returns-clause-leads
returns-clause-leads c =
    rw c.from.ensures (record {
      read = c.in_ok-found.found.items;
      reads = rw c.as_slice.ensures at c.in_ok-found.ensures.read;
      closes = c.in_ok-closure.ensures.closure;
    })

pub returns-clause-key : goal.returns-clause-key
returns-clause-key c =
    rw c.from.ensures
    (record { states = c.in_ok-closure.ensures.states; closed = c.in_ok-closure.ensures.closure.closed })
