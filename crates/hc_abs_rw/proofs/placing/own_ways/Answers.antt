use Rattle.std.proofs.lemmas.Result.{on_ok_weaker}
use Rattle.hc_abs_rw.proofs.Leading.{own_led}
use Rattle.hc_abs_rw.proofs.placing.own_ways.Goals as goal

pub returns : goal.returns
returns c =
    on_ok_weaker c.sent_way.result
    (own_led c.args.task.now c.args.draft.now c.own.result.now c.in_ok-ways.ways _ _ _ c.own.ensures
    c.in_ok-ways.ensures
    c.in_ok-own_way.ensures) c.sent_way.ensures
