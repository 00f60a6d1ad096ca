use Rattle.std.proofs.lemmas.Result.{on_ok_weaker}
use Rattle.hc_abs_rw.proofs.Queries.{split_led}
use Rattle.hc_abs_rw.proofs.split.split.Goals as goal

pub returns : goal.returns
returns c =
    on_ok_weaker c.without_query.result
    (split_led c.args.task.now c.args.tied c.args.text.now c.question.result.now c.in_ok-ways.ways _ _ _
    c.question.ensures
    c.in_ok-ways.ensures c.in_ok-with_query.ensures) c.without_query.ensures
