use Rattle.std.proofs.lemmas.Result.{on_ok_weaker}
use Rattle.hc_abs_rw.proofs.Leading.{url_led}
use Rattle.hc_abs_rw.proofs.placing.text_ways.Goals as goal

pub returns : goal.returns
returns c =
    on_ok_weaker c.scheme_way.result
    (url_led c.args.task.now c.args.draft.now c.url.result.now c.in_ok-ways.ways _ _ _ c.url.ensures
    c.in_ok-ways.ensures
    c.in_ok-url_way.ensures) c.scheme_way.ensures
