use Rattle.hc_flat.proofs.Rows.{seen_at}
use Rattle.hc_flat.proofs.entries.Entries.entry.Goals as goal

pub returns : goal.returns
returns c =
    rw (← c.self.view_is, c.lent.ensures, c.as_slice.ensures, c.deref.ensures, c.index.ensures)
    (seen_at c.self.inside.files _ c.self.inside.rows.items c.args.at c.index.result.now
    (rw (← c.self.view_is) at c.requires))
