use Rattle.std.proofs.lemmas.Result.{IfOk-weaker}
use Rattle.std.specs.Rc.{rc_value}
use Rattle.hc_abs_left.proofs.Common.{◌∙◌, Some, ap}
use Rattle.hc_rw_expand.specs.Contexts.{engine_of}
use Rattle.hc_abs_left.proofs.Framing.{frame_is}
use Rattle.hc_abs_left.proofs.Rounding.{round_fits}
use Rattle.hc_abs_left.specs.Left.{engine_at}
use Rattle.hc_abs_left.proofs.rounds.dir_round_branches.Goals as goal

pub returns : goal.returns
returns c =
    let own = c.as_ref-own.ensures in
    IfOk-weaker c.all_past.result _ _ (λ found.
    round_fits c.args.ground (rc_value c.args.settings.now) c.args.dir.now (engine_of c.engine_at.result)
    c.args.so_far c.args.tied _ c.as_slice.result.now c.in_ok-listed.listed.items found.items
    (λ levels merges. frame_is c.args.ground c.root_of.result (Some c.engine_at.result) levels merges c.requires
    c.root_of.ensures) (c.engine_at.ensures ∙ ap (λ settings. engine_at settings c.args.dir.now) own)
    (c.as_slice.ensures ∙ ap (λ settings. settings.force.rules) own) c.in_ok-listed.ensures.branches)
    c.all_past.ensures
