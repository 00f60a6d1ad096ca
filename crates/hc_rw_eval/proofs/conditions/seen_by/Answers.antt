use Rattle.hc_rw_eval.proofs.Common.{ran_leaves, ran_then}
use Rattle.hc_rw_eval.specs.Conditions.{seen_by}
use Rattle.hc_rw_eval.proofs.conditions.seen_by.Goals as goal

pub returns-in_ok-file_there-in-IsFile : goal.returns-in_ok-file_there-in-IsFile
unfolding seen_by
returns-in_ok-file_there-in-IsFile c =
    rw c.in-IsFile.is (ran_then _ _ _ _ _ _ _ _ c.in_ok-file_there-in-IsFile.ensures (ran_leaves _ _ _ _ _ (cc)))

pub returns-in_ok-dir_there-in-IsDir : goal.returns-in_ok-dir_there-in-IsDir
unfolding seen_by
returns-in_ok-dir_there-in-IsDir c =
    rw c.in-IsDir.is (ran_then _ _ _ _ _ _ _ _ c.in_ok-dir_there-in-IsDir.ensures (ran_leaves _ _ _ _ _ (cc)))
