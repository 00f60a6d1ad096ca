use Rattle.hc_rw_eval.proofs.files.dir_there.Goals as goal

pub returns : goal.returns
returns c = rw (c.in_ok-path.ensures, c.as_bytes.ensures) at c.dir_at.ensures
