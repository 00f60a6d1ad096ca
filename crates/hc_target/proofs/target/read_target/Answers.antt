use Rattle.std.proofs.lemmas.Result.{IfOk-weaker}
use Rattle.hc_target.specs.Targets.{HasNormalPath}
use Rattle.hc_target.proofs.Placing.{answer_normal}
use Rattle.hc_target.proofs.target.read_target.Goals as goal

pub returns-clause-normal : goal.returns-clause-normal
returns-clause-normal c =
    IfOk-weaker c.read_sent.result _ HasNormalPath
    (answer_normal c.split_query.result.0.now c.split_query.result.1.now) c.read_sent.ensures
