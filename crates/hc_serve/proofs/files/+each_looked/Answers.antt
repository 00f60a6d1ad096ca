use Rattle.std.proofs.Common.{ap}
use Rattle.hc_serve.proofs.Looks.{begins_with, first_stopped, more_looked, none_looked, stopped}
use Rattle.hc_serve.proofs.Costs.{costs_nothing, first_costs, more_costs}
use Rattle.hc_serve.proofs.files.+each_looked.Goals as goal

pub returns-in_default-clause-step : goal.returns-in_default-clause-step
returns-in_default-clause-step g limit c = λ files. none_looked _ _ _ files c.args.wanted.now _ c.in_default.len_below

pub returns-in_err-file_looked-clause-step : goal.returns-in_err-file_looked-clause-step
returns-in_err-file_looked-clause-step g limit c = λ files.
    stopped _ _ _ _ _ _ c.from_residual.ensures.1
    (first_stopped _ _ (g.O.Overrides.reading (g.O.Overrides.fixed c.args.over.now)) files _ _ _
    (begins_with c.args.wanted.now c.each-item.result c.as_bytes.result.now c.in-len1-up.len_at_least c.each-item.is
    c.as_bytes.ensures)
    _ _ _ (c.in_err-file_looked.ensures.step files))

pub returns-clause-step : goal.returns-clause-step
returns-clause-step g limit c = λ files.
    more_looked _ _ _ files _ _ _
    (begins_with c.args.wanted.now c.each-item.result c.as_bytes.result.now c.in-len1-up.len_at_least c.each-item.is
    c.as_bytes.ensures)
    _ _ _ _ _ (ap g.O.Overrides.reading c.file_looked.ensures.over.0) (c.in_ok-file_looked.ensures.step files)
    c.each_looked.ensures.step

pub returns-in_default-clause-counted : goal.returns-in_default-clause-counted
returns-in_default-clause-counted g limit c = λ files. costs_nothing _ _ _ _

pub returns-in_err-file_looked-clause-counted : goal.returns-in_err-file_looked-clause-counted
returns-in_err-file_looked-clause-counted g limit c = λ files.
    first_costs _ _ files _ _ _
    (begins_with c.args.wanted.now c.each-item.result c.as_bytes.result.now c.in-len1-up.len_at_least c.each-item.is
    c.as_bytes.ensures)
    _ _ _ _ c.from_residual.ensures.1 (c.in_err-file_looked.ensures.counted files)

pub returns-clause-counted : goal.returns-clause-counted
returns-clause-counted g limit c = λ files.
    more_costs _ _ files _ _ _
    (begins_with c.args.wanted.now c.each-item.result c.as_bytes.result.now c.in-len1-up.len_at_least c.each-item.is
    c.as_bytes.ensures)
    _ _ _ _ _ _ _ _ (c.in_ok-file_looked.ensures.step files) (c.in_ok-file_looked.ensures.counted files)
    c.each_looked.ensures.counted
