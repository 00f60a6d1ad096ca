use Rattle.hc_dfa.proofs.Common.{sym, ◌∙◌, ap}
use Rattle.hc_dfa.proofs.Cells.{table}
use Rattle.hc_dfa.proofs.ReadOn.{tested}
use Rattle.hc_dfa.proofs.readings.tested.Goals as goal

pub made-requires : goal.made-requires
made-requires g c =
    table _ _ _ _ _ _ _ _ c.in_ok-classes.ensures.classes (λ i. c.in_ok-classes.classes.firsts)
    (rw c.firsts.ensures.value at c.in_ok-table.ensures)

pub returns : goal.returns
returns g c =
    let test = c.args.reading.now in
    let own = c.in_ok-classes.ensures.own in
    λ text bytes.
    c.in_ok-reduced.ensures text bytes
    ∙ rw (c.in_ok-smaller.ensures, c.made.ensures)
    (tested (g.R.Reading.is_key test) (g.R.Reading.reads test) (g.R.Reading.holds test) c.args.first
    c.in_ok-classes.classes c.in_ok-table.table.next.items c.in_ok-table.table.finals.items
    (record {
      classes = c.in_ok-classes.ensures.classes;
      tells = λ from to b d proper below within same step.
          step ∙ ap (g.R.Reading.reads test from) (sym (own b below) ∙ (same ∙ own d within));
      table = rw c.firsts.ensures.value at c.in_ok-table.ensures;
    }) text bytes)
