use Rattle.std.proofs.Common.{◌∙◌, refl}
use Rattle.std.proofs.lemmas.Result.{on_ok_weaker}
use Rattle.hc_abs_rw.proofs.Queries.{kept_led}
use Rattle.hc_abs_rw.proofs.split.without_query.Goals as goal

pub returns : goal.returns
returns c =
    on_ok_weaker c.text_ways.result
    (kept_led c.args.task.now c.args.ties c.args.text.now c.in-Some.way _ _ c.args.way c.in-Some.is c.args.text
    c.deref.result refl (c.deref.ensures.value ∙ c.in_ok-query.ensures)) c.text_ways.ensures
