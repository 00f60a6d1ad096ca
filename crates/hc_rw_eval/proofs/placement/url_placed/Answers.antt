use Rattle.hc_rw_eval.specs.Substitutions.{url_placed}
use Rattle.hc_rw_eval.specs.Frames.{shown_at}
use Rattle.hc_rw_eval.proofs.placement.url_placed.Goals as goal

pub returns-in_default : goal.returns-in_default
unfolding url_placed
returns-in_default g c = rw c.in_default.is (rw (c.in_ok-location.ensures, c.new-front.ensures.items) at
    (c.sent.ensures c.args.log.now (shown_at c.args.frame.now)))
