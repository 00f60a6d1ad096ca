use Rattle.std.proofs.lemmas.Result.{on_ok_weaker}
use Rattle.hc_abs_rw.proofs.Leading.{front_refused}
use Rattle.hc_abs_rw.proofs.paths.fronted.Goals as goal

pub returns-in-Err : goal.returns-in-Err
returns-in-Err c =
    on_ok_weaker c.outside.result (λ led.
    front_refused c.args.task.now c.args.draft _ _ c.args.front c.in-Err.reason c.in-Err.is (led c.args.task.now))
    c.outside.ensures
