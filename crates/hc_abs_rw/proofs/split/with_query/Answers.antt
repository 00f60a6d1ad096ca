use Rattle.std.proofs.Common.{◌∙◌}
use Rattle.std.proofs.lemmas.Result.{on_ok_weaker}
use Rattle.hc_abs_rw.proofs.Queries.{new_led}
use Rattle.hc_abs_rw.proofs.split.with_query.Goals as goal

pub returns : goal.returns
returns c =
    on_ok_weaker c.text_ways.result
    (new_led c.args.task.now c.args.ties c.args.text.now c.in-Some.way _ _ c.args.way c.in-Some.is c.in_ok-texts.texts
    c.in_ok-queries.field-0 c.in_ok-before_question.field-0 c.deref.result c.deref-2.result c.in_ok-texts.ensures
    c.in_ok-queries.ensures c.in_ok-before_question.ensures (c.deref.ensures.value ∙ c.in_ok-front.ensures)
    (c.deref-2.ensures.value ∙ c.in_ok-query.ensures)) c.text_ways.ensures
