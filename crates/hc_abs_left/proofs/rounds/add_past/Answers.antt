use Rattle.std.specs.Rc.{rc_value}
use Rattle.hc_abs_left.proofs.Common.{◌&&◌, ◌∙◌, ◌++◌, ◌∷◌, [], ap, subst, true}
use Rattle.hc_abs_left.proofs.Rounding.{again_past, over_past, ruled_past}
use Rattle.hc_abs_left.specs.Left.{ended_in}
use Rattle.hc_abs_left.specs.Rounds.{untied_so}
use Rattle.hc_abs_left.specs.Segments.{AreLeft}
use Rattle.hc_abs_left.specs.declared.segment.Finish.TheVariants as finish
use Rattle.hc_abs_left.proofs.rounds.add_past.Goals as goal

pub returns-in_ok-append-in-Over : goal.returns-in_ok-append-in-Over
returns-in_ok-append-in-Over c =
    let one = c.args.one in
    over_past c.args.ground (rc_value c.args.settings.now) one c.args.found.now.items c.append.new.self.items
    c.in-Over.passed c.in_ok-more-in-Over.more.items c.in-Over.is
    (subst (λ settings. AreLeft c.args.ground settings one.left.decisions true
    (untied_so (c.in-Over.passed && one.left.substituted) one.tied) c.in_ok-more-in-Over.more.items) c.as_ref.ensures
    c.in_ok-more-in-Over.ensures)
    c.in_ok-append-in-Over.ensures.items

pub returns-in_ok-push-in-Again : goal.returns-in_ok-push-in-Again
returns-in_ok-push-in-Again c =
    again_past c.args.ground (rc_value c.args.settings.now) c.args.one c.args.found.now.items c.push.new.self.items
    c.in-Again.rule c.in_ok-begins_again-in-Again.field-0 c.in-Again.is c.in_ok-begins_again-in-Again.ensures
    c.in_ok-push-in-Again.ensures.items

pub returns-in_ok-push-in-Answered : goal.returns-in_ok-push-in-Answered
returns-in_ok-push-in-Answered c =
    let one = c.args.one in
    ruled_past c.args.ground (rc_value c.args.settings.now) one c.args.found.now.items c.push-in-Answered.new.self.items
    c.in-Answered.next c.requires c.in-Answered.is
    (c.in_ok-push-in-Answered.ensures.items
    ∙ ap (λ segment. c.args.found.now.items ++ segment ∷ []) (c.in_ok-ended-in-Answered.ensures
    ∙ ap (λ settings. ended_in settings one.left.decisions one.tied (finish.Ruled c.in-Answered.next))
    c.as_ref-in-Answered.ensures))
