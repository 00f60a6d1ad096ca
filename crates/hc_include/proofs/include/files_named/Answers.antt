use Rattle.hc_include.proofs.Common.{ran_then, files_named}
use Rattle.hc_include.proofs.Texts.{ran_given}
use Rattle.hc_include.proofs.include.files_named.Goals as goal

pub returns : goal.returns
unfolding files_named
returns c =
    ran_then _ _ _ _ _ _ _ _ c.in_ok-paths.ensures
    (ran_then _ _ _ _ _ _ _ _ c.in_ok-among.ensures (ran_given _ _ _ _ c.files_among.ensures))
