use Rattle.hc_serve.proofs.Common.{ap, refl, ran_off, ran_then}
use Rattle.hc_serve.proofs.Looks.{force_left}
use Rattle.hc_serve.specs.Passing.{in_force}
use Rattle.hc_serve.specs.Site.{site_of}
use Rattle.hc_steps.specs.Step.{◌>>=◌}
use Rattle.hc_serve.proofs.Costs.{costs_before, costs_off, costs_there}
use Rattle.hc_steps.specs.Shown.{shown_by}
use Rattle.hc_serve.proofs.force.in_force.Goals as goal

pub returns-in_err-files_looked-clause-step : goal.returns-in_err-files_looked-clause-step
unfolding in_force ◌>>=◌
returns-in_err-files_looked-clause-step g c =
    ran_off _ _ _ _ _ _ _ _ c.from_residual.ensures.1 c.in_err-files_looked.ensures.step refl

pub returns-clause-step : goal.returns-clause-step
unfolding in_force ◌>>=◌
returns-clause-step g c =
    ran_then _ _ _ _ _ _ _ _ c.in_ok-files_looked.ensures.step
    (rw (
      c.in_ok-here.ensures,
      ap g.O.Overrides.reading c.files_looked.ensures.over.0,
      force_left
          (g.O.Overrides.reading (g.O.Overrides.fixed c.args.over.now))
          (site_of c.args.asked.now) c.args.there,
    ) at (c.sections_told.ensures (shown_by c.args.asked.now.world.now.files)))

pub returns-in_err-files_looked-clause-counted : goal.returns-in_err-files_looked-clause-counted
unfolding in_force ◌>>=◌
returns-in_err-files_looked-clause-counted g c =
    costs_off _ _ _ _ _ _ _ c.from_residual.ensures.1 (costs_there _ _ _ _ _ _ _ c.in_err-files_looked.ensures.counted)

pub returns-in_err-here-clause-counted : goal.returns-in_err-here-clause-counted
unfolding in_force ◌>>=◌
returns-in_err-here-clause-counted g c = costs_before _ _ _ _ _ _ _ _ c.in_ok-files_looked.ensures.counted

pub returns-clause-counted : goal.returns-clause-counted
unfolding in_force ◌>>=◌
returns-clause-counted g c = costs_before _ _ _ _ _ _ _ _ c.in_ok-files_looked.ensures.counted
