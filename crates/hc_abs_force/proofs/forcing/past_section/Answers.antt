use Rattle.std.proofs.Common.{ap}
use Rattle.std.specs.Option.{option_map}
use Rattle.hc_merge.specs.CandidateView.{candidate_of}
use Rattle.hc_abs_force.specs.Asking.{exprs}
use Rattle.hc_abs_force.proofs.Stepping.{all_applied_past, all_tried_past}
use Rattle.hc_abs_force.proofs.forcing.past_section.Goals as goal

pub returns-in_ok-later-in-None : goal.returns-in_ok-later-in-None
returns-in_ok-later-in-None c =
    all_applied_past c.args.scene (exprs c.args.chain.now) (candidate_of c.args.candidate.now)
    (ap (option_map (λ reach. reach.now)) c.in-None.is) c.args.before.items c.in_ok-later-in-None.later.items
    c.in_ok-later-in-None.ensures

pub returns-in_ok-later-in-Some : goal.returns-in_ok-later-in-Some
returns-in_ok-later-in-Some c =
    all_tried_past c.args.scene (exprs c.args.chain.now) (candidate_of c.args.candidate.now) c.in-Some.reach.now
    (ap (option_map (λ reach. reach.now)) c.in-Some.is) c.args.before.items c.in_ok-later-in-Some.later.items
    c.in_ok-later-in-Some.ensures
