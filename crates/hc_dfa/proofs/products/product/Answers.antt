use Rattle.hc_dfa.proofs.Common.{◌∙◌, IsPair, pair_step}
use Rattle.hc_dfa.proofs.Pairs.{pair_mark, pairs_accept, pairs_tell}
use Rattle.hc_dfa.proofs.Cells.{table}
use Rattle.hc_dfa.proofs.ReadOn.{tested}
use Rattle.hc_dfa.proofs.products.product.Goals as goal

pub made-requires : goal.made-requires
made-requires c =
    table _ _ _ _ _ _ _ _ c.in_ok-shared.ensures.classes (λ i. c.in_ok-shared.shared.firsts)
    (rw c.firsts.ensures.value at c.in_ok-table.ensures)

pub returns : goal.returns
returns c =
    let a = c.args.a.now in
    let b = c.args.b.now in
    rw c.made.ensures
    (λ text bytes.
    tested (IsPair a b) (pair_step a b) (pair_mark a b c.args.keep) (0, 0) c.in_ok-shared.shared
    c.in_ok-table.table.next.items c.in_ok-table.table.finals.items
    (record {
      classes = c.in_ok-shared.ensures.classes;
      tells = pairs_tell a b c.args.keep c.in_ok-shared.shared c.in_ok-shared.ensures.first
          c.in_ok-shared.ensures.second;
      table = rw c.firsts.ensures.value at c.in_ok-table.ensures;
    }) text bytes ∙ pairs_accept a b c.args.keep text)
