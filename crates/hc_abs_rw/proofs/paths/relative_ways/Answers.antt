use Rattle.std.proofs.lemmas.Result.{on_ok_weaker}
use Rattle.hc_abs_rw.proofs.Leading.{slash_led}
use Rattle.hc_abs_rw.proofs.paths.relative_ways.Goals as goal

pub returns : goal.returns
returns c =
    on_ok_weaker c.placed_way.result
    (slash_led c.args.task.now c.args.draft.now c.absolute.result.now c.in_ok-ways.ways _ _ _ c.absolute.ensures
    c.in_ok-ways.ensures c.in_ok-fronted_way.ensures) c.placed_way.ensures
