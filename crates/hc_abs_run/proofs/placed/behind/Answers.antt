use Rattle.std.proofs.lemmas.Result.{IfOk-weaker}
use Rattle.hc_abs_run.proofs.Common.{◌∙◌, ◌∷◌, [], None, ap}
use Rattle.hc_abs_left.specs.declared.segment.Finish.TheVariants as finish
use Rattle.hc_abs_run.proofs.Placing.{name_fits, over_fits}
use Rattle.hc_abs_run.proofs.placed.behind.Goals as goal

pub returns-in_ok-copy-in-Over-clause-branches : goal.returns-in_ok-copy-in-Over-clause-branches
returns-in_ok-copy-in-Over-clause-branches g c =
    IfOk-weaker c.ended.result _ _ (λ found same.
    over_fits c.args.ground c.args.decisions.now c.args.one c.in-Over.tied c.in-Over.left found.items c.in-Over.is
    (same ∙ ap (λ decisions. record {
      tied = c.in-Over.tied;
      decisions = decisions;
      require = None;
      finish = finish.Stopped c.in-Over.left;
    } ∷ []) c.in_ok-copy-in-Over.ensures)) c.ended.ensures

pub returns-in-Name-clause-branches : goal.returns-in-Name-clause-branches
returns-in-Name-clause-branches g c =
    IfOk-weaker c.arrived_branches.result _ _ (λ found are.
    name_fits c.args.ground c.args.decisions.now c.args.one c.in-Name.named c.in-Name.aliased found.items c.in-Name.is
    are) c.arrived_branches.ensures.branches
