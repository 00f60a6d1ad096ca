use Rattle.hc_rw_eval.proofs.Common.{ran_leaves, ran_then}
use Rattle.hc_rw_eval.specs.Conditions.{stands_there}
use Rattle.hc_rw_eval.proofs.files.file_at.Goals as goal

pub returns : goal.returns
unfolding stands_there
returns c = rw c.in-Some.is (ran_then _ _ _ _ _ _ _ _ c.in_ok-kind.ensures (ran_leaves _ _ _ _ _ c.is_file.ensures))
