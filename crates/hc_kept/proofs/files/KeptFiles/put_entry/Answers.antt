use Rattle.hc_kept.proofs.Entries.{own_stays, puts_entry}
use Rattle.hc_kept.proofs.files.KeptFiles.put_entry.Goals as goal

pub invariant_of-self-2 : goal.invariant_of-self-2
invariant_of-self-2 c =
    record {
      own = rw c.in_ok-insert.ensures.entries
          (own_stays c.args.key c.args.kept _ c.requires c.self.invariant.own);
      differ = c.in_ok-insert.ensures.unique;
    }

pub returns-clause-ok : goal.returns-clause-ok
returns-clause-ok c =
    rw (← c.self.view_is, c.in_ok-insert.ensures.entries)
    (puts_entry c.args.key c.args.kept c.self.inside.by_key.entries)
