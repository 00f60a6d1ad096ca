use Rattle.std.proofs.lemmas.Result.{err_from_is_err_and}
use Rattle.hc_session.proofs.Answering.{none_counted}
use Rattle.hc_session.proofs.session.Session.step.Goals as goal

pub returns-in_err-path-clause-evals : goal.returns-in_err-path-clause-evals
returns-in_err-path-clause-evals g c =
    let p = err_from_is_err_and c.from_residual-in_err-path.result c.from_residual-in_err-path.ensures.1 in
    rw p.1 (none_counted _ _ _ _)
