use Rattle.hc_include.proofs.Common.{ap, run, shown_by, flat_by, flat_of, main_read}
use Rattle.hc_steps.proofs.Kept.{each_is_kept}
use Rattle.hc_steps.proofs.Running.{agreement}
use Rattle.hc_include.proofs.laws.flat_lists_agree.Goals as goal

pub returns : goal.returns
unfolding flat_of
returns c main one other agree =
    let reads = (run (main_read main) (shown_by one)).reads in
    ap (flat_by main)
    (agreement (main_read main) (shown_by one) (shown_by other)
    (λ read is. agree read (each_is_kept reads read is)))
