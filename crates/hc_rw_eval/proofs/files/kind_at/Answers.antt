use Rattle.hc_rw_eval.proofs.files.kind_at.Goals as goal

pub returns : goal.returns
returns c = rw c.as_bytes.ensures at c.kind_at.ensures
