use Rattle.std.proofs.Common.{arith}
use Rattle.std.proofs.lemmas.Iterator.Adapters.{YieldsList-from_vec}
use Rattle.std.proofs.lemmas.Iterator.Consumers.{YieldsList-end}
use Rattle.std.proofs.lemmas.List.{map-id}
use Rattle.std.specs.Rc.{rc_value}
use Rattle.hc_abs_dir.proofs.Common.{◌∙◌, subst, sym}
use Rattle.hc_abs_dir.specs.Behind.{AreBehind}
use Rattle.hc_abs_dir.proofs.Behind.{behind_more}
use Rattle.hc_abs_dir.proofs.forced.all_behind.Goals as goal

pub loop-answer-preserved : goal.loop-answer-preserved
loop-answer-preserved c =
    behind_more c.args.ground (rc_value c.args.settings.now) c.args.decisions.now c.loop-answer.yielded
    c.in-Some.answer c.loop-answer.found.items c.in_ok-more.more.items c.append.new.self.items c.loop-answer.invariant
    c.in_ok-append.ensures.items c.in_ok-more.ensures

pub returns : goal.returns
returns c =
    let gives = c.into_iter-answer-iterator.ensures.into_iter_gives in
    let end = YieldsList-end (YieldsList-from_vec {s = c.into_iter-answer-iterator.result} c.args.answers.items gives.0
    (let same = gives.1 in omega (arith, same))) c.loop-answer.yielded
    c.loop-answer.answer-iterator c.loop-answer.yielded_by c.next.result c.next.new.self c.in-None.is
    c.next.ensures.steps in
    subst (λ answers. AreBehind c.args.ground (rc_value c.args.settings.now) c.args.decisions.now answers
    c.loop-answer.found.items) (sym (map-id c.loop-answer.yielded) ∙ end.0) c.loop-answer.invariant
