use Rattle.std.proofs.lemmas.Result.{IfOk-weaker}
use Rattle.hc_rw_eval.proofs.Common.{Finished, Outcome, Ran, Run, run, subst, sym}
use Rattle.hc_rw_eval.proofs.Looking.{same_run}
use Rattle.hc_rw_eval.specs.Frames.{as_step}
use Rattle.hc_rw_eval.specs.Lists.{run_rules}
use Rattle.hc_rw_expand.specs.Contexts.{context_of}
use Rattle.hc_steps.specs.Shown.{shown_by}
use Rattle.hc_rw_eval.proofs.run.run_rules.Goals as goal

pub returns : goal.returns
returns g c = λ looks stands.
    let whole : Run Outcome Finished =
    run (run_rules (context_of c.args.context.now) looks c.args.rules.now c.args.state)
    (shown_by c.args.world.now.files) in
    let ran : Ran c.rounds_from-ended.result c.args.log c.rounds_from-ended.new.log whole =
    subst (Ran c.rounds_from-ended.result c.args.log c.rounds_from-ended.new.log) (same_run _ _ looks _ stands _ _ _)
    (rw (c.most_rounds.ensures, c.begun.ensures) at c.rounds_from-ended.ensures) in
    IfOk-weaker c.with_log.result _ (λ made. Ran (as_step made.came) c.args.log made.log whole)
    (λ made is. subst (λ answer. Ran answer c.args.log made.log whole) (sym is.1)
    (subst (λ log. Ran c.rounds_from-ended.result c.args.log log whole) (sym is.0) ran))
    c.with_log.ensures
