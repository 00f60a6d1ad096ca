use Rattle.hc_rw_eval.proofs.Common.{ran_then}
use Rattle.hc_rw_eval.specs.Conditions.{text_tested}
use Rattle.hc_steps.specs.Shown.{shown_by}
use Rattle.hc_rw_eval.proofs.conditions.text_tested.Goals as goal

pub returns : goal.returns
unfolding text_tested
returns c = ran_then _ _ _ _ _ _ _ _ c.in_ok-seen.ensures
    (rw c.tested_by.ensures at (c.cond_told.ensures (shown_by c.args.world.now.files)))
