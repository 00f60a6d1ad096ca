use Rattle.hc_dfa.proofs.Common.{◌≡◌, ◌+◌, vec_len, Extends}
use Rattle.hc_dfa.specs.Explored.{RowsExplored}
use Rattle.hc_dfa.proofs.rows.add_cells.Given as goal

abbrev pub invariant-loop-byte : goal.invariant-loop-byte
invariant-loop-byte g l = record {
  scratch : g.R.Rows.fits l.walk.rows.now l.scratch;
  explored : RowsExplored (g.R.Rows.is_key l.walk.rows.now) (g.R.Rows.leads l.walk.rows.now) l.walk.bytes.now
      l.keys.keys l.next.items;
  len : vec_len l.next ≡ vec_len l.initial.next + l.byte-index;
  extends : Extends l.initial.keys.keys l.keys.keys;
}
