use Rattle.hc_serve.proofs.Common.{◌∙◌, ran_no_further}
use Rattle.hc_merge.specs.Overriding.{htaccess_of}
use Rattle.hc_serve.proofs.Looks.{file_read, stopped}
use Rattle.hc_serve.specs.Passing.{file_looked}
use Rattle.hc_serve.proofs.Costs.{costs_nothing, file_costs}
use Rattle.hc_serve.proofs.files.file_looked.Goals as goal
use Rattle.hc_steps.specs.Step.{text_at}
use Rattle.hc_steps.proofs.Going.{ran_no_memory}

pub returns-in_err-file-clause-step : goal.returns-in_err-file-clause-step
returns-in_err-file-clause-step g c = λ files. stopped _ _ _ _ _ _ c.from_residual.ensures.1 (ran_no_memory _ _ _ _)

pub returns-in_err-text_at-clause-step : goal.returns-in_err-text_at-clause-step
unfolding file_looked
returns-in_err-text_at-clause-step g c = λ files.
    stopped _ _ _ _ _ _ c.from_residual-in_err-text_at.ensures.1
    (ran_no_further (text_at (htaccess_of c.args.dir.now)) _ _ _ _ _
    (rw (c.as_bytes.ensures ∙ c.in_ok-file.ensures) at c.in_err-text_at.ensures))

pub returns-clause-step : goal.returns-clause-step
returns-clause-step g c = λ files.
    file_read _ _ _ files _ _ _ _ _ _ _ (c.as_bytes.ensures ∙ c.in_ok-file.ensures) c.requires.over.0
    c.in_ok-text_at.ensures c.load.ensures.cause c.stopping.ensures

pub returns-in_err-file-clause-counted : goal.returns-in_err-file-clause-counted
returns-in_err-file-clause-counted g c = λ files. costs_nothing _ _ _ _

pub returns-in_err-text_at-clause-counted : goal.returns-in_err-text_at-clause-counted
returns-in_err-text_at-clause-counted g c = λ files. costs_nothing _ _ _ _

pub returns-clause-counted : goal.returns-clause-counted
returns-clause-counted g c = λ files. file_costs _ _ files _ _ _ _ _ _ c.requires.over.1 c.load.ensures.counted
    c.stopping.ensures
