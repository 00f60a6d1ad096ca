use Rattle.hc_dfa.proofs.Common.{◌≡◌, ◌+◌, Some, length, slice_get, arith, ap, sym, ◌∙◌}
use Rattle.hc_dfa.proofs.Common.{slice_get-get_or}
use Rattle.hc_dfa.proofs.Cells.{rows_more}
use Rattle.hc_dfa.proofs.rows.FillingWalk.follow.Goals as goal

pub add_cells-requires-clause-row : goal.add_cells-requires-clause-row
add_cells-requires-clause-row g c =
    let before = c.requires.before.1 in
    let at : slice_get c.args.keys.now.keys c.args.number ≡ Some c.in_ok-key.key =
    slice_get-get_or c.args.keys.now.keys c.args.number c.in_ok-key.key c.requires.number
    ∙ ap Some (rw c.in_ok-key.ensures (sym (rw c.as_slice.ensures.keys at c.index-as_slice-number.is))) in
    (c.args.number, at, (let rows = before.rows in omega arith))

pub returns : goal.returns
returns g c =
    let rows = c.args.self.now.rows.now in
    let before = c.requires.before.1 in
    let at : slice_get c.args.keys.now.keys c.args.number ≡ Some c.in_ok-key.key =
    slice_get-get_or c.args.keys.now.keys c.args.number c.in_ok-key.key c.requires.number
    ∙ ap Some (rw c.in_ok-key.ensures (sym (rw c.as_slice.ensures.keys at c.index-as_slice-number.is))) in
    let len : length c.add_cells.new.next.items
    ≡ length c.args.filled.now.table.next.items + length c.args.self.now.bytes.now =
    (let l = c.in_ok-add_cells.ensures.len in omega arith) in (
      c.in_ok-add_cells.ensures.scratch,
      rw c.in_ok-push.ensures.items
          (rows_more (g.R.Rows.begins rows) (g.R.Rows.is_key rows) (g.R.Rows.leads rows) (g.R.Rows.marks rows)
          c.args.self.now.bytes.now c.args.keys.now.keys _ c.args.filled.now.table.next.items _ _ _ c.in_ok-key.key _
          before at c.in_ok-add_cells.ensures.explored len c.in_ok-add_cells.ensures.extends c.is_final.ensures),
    )
