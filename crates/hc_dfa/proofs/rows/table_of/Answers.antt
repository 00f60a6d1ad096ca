use Rattle.hc_dfa.proofs.Cells.{rows_begun}
use Rattle.hc_dfa.proofs.rows.table_of.Goals as goal

pub explore-requires : goal.explore-requires
explore-requires g c =
    let rows = c.args.rows.now in (
      c.requires.scratch,
      rw (c.new.ensures.items, c.new-2.ensures.items)
          (rows_begun (g.R.Rows.begins rows) (g.R.Rows.is_key rows) (g.R.Rows.leads rows) (g.R.Rows.marks rows)
          c.args.bytes.now _ _ c.args.first _ c.new-keys.ensures.empty c.in_ok-number_of.ensures c.requires.first
          c.requires.key),
    )
