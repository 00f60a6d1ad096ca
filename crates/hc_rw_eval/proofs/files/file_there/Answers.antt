use Rattle.hc_rw_eval.proofs.files.file_there.Goals as goal

pub returns : goal.returns
returns c = rw (c.in_ok-path.ensures, c.as_bytes.ensures) at c.file_at.ensures
