use Rattle.hc_abs_left.proofs.Common.{◌∙◌, ◌++◌, ◌∷◌, [], ap}
use Rattle.hc_abs_left.proofs.Leaving.{sent_behind, unsent_behind}
use Rattle.hc_abs_left.proofs.left.add_behind.Goals as goal

pub returns-in_ok-push-in-Some : goal.returns-in_ok-push-in-Some
returns-in_ok-push-in-Some c =
    sent_behind c.args.ground c.args.settings.now c.args.decisions.now c.args.ran c.args.one c.args.found.now.items
    c.push.new.self.items c.in-Some.left c.in-Some.is
    (c.in_ok-push-in-Some.ensures.items
    ∙ ap (λ segment. c.args.found.now.items ++ segment ∷ []) c.in_ok-stopped-in-Some.ensures)

pub returns-in_ok-append-in-None : goal.returns-in_ok-append-in-None
returns-in_ok-append-in-None c =
    unsent_behind c.args.ground c.args.settings.now c.args.decisions.now c.args.ran c.args.one c.args.found.now.items
    c.append.new.self.items c.in_ok-more-in-None.more.items c.in-None.is c.in_ok-more-in-None.ensures
    c.in_ok-append-in-None.ensures.items
