use Rattle.hc_rw_eval.proofs.Common.{refl, ran_off, ran_then}
use Rattle.hc_rw_eval.specs.Attempts.{if_tested, pattern_held}
use Rattle.hc_rw_eval.specs.Frames.{shown_at}
use Rattle.hc_rw_eval.proofs.attempt.pattern_held.Goals as goal

pub returns-in_err-holds : goal.returns-in_err-holds
unfolding pattern_held
returns-in_err-holds g c =
    ran_off _ _ _ _ _ _ _ _ c.from_residual.ensures.1 (rw c.as_slice.ensures at c.in_err-holds.ensures) refl

pub returns-then-holds : goal.returns-then-holds
unfolding pattern_held if_tested
returns-then-holds g c =
    ran_then _ _ _ _ _ _ _ _ (rw c.as_slice.ensures at c.in_ok-holds.ensures) (rw c.if-holds.true c.matched.ensures)

pub returns-else-holds : goal.returns-else-holds
unfolding pattern_held if_tested
returns-else-holds g c =
    ran_then _ _ _ _ _ _ _ _ (rw c.as_slice.ensures at c.in_ok-holds.ensures)
    (rw c.if-holds.false (c.not_matched.ensures (shown_at c.args.frame.now)))
