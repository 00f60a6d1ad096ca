use Rattle.hc_rw_eval.proofs.Rounds.{round_again, round_faults, round_over, rounds_end}
use Rattle.hc_rw_eval.proofs.run.rounds_from.Goals as goal

pub returns-in_err-finished : goal.returns-in_err-finished
returns-in_err-finished g c =
    round_faults _ _ _ _ _ _ _ _ _ _ c.loop-earlier.invariant c.loop-earlier-test.true _ _ _ c.in_err-finished.ensures
    c.from_residual.ensures.1

pub returns-in-Over : goal.returns-in-Over
returns-in-Over g c =
    round_over _ _ _ _ _ _ _ _ _ _ c.loop-earlier.invariant c.loop-earlier-test.true _ _
    (rw c.in-Over.is at c.in_ok-finished.ensures)

pub loop-earlier-preserved : goal.loop-earlier-preserved
loop-earlier-preserved g c =
    round_again _ _ _ _ _ _ _ _ _ _ c.loop-earlier.invariant c.loop-earlier-test.true _ _ _
    (rw c.in-Again.is at c.in_ok-finished.ensures) c.in_ok-tell_round-in-Again.ensures

pub returns : goal.returns
returns g c = rounds_end _ _ _ _ _ _ _ _ _ _ c.loop-earlier.invariant c.loop-earlier-test.false
