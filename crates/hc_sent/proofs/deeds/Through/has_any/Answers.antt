use Rattle.hc_sent.proofs.Doing.{through}
use Rattle.hc_sent.proofs.Texts.{answer_as}
use Rattle.hc_sent.proofs.deeds.Through.has_any.Goals as goal

pub returns : goal.returns
returns c =
    answer_as _ (through c.args.self.now.front.now c.args.self.now.own.now _ c.args.self.now.marked.now _
    c.args.self.now.rest.now _ c.args.self.now.whole.now _ c.in_ok-begun.ensures c.in_ok-marked.ensures
    c.in_ok-all.ensures c.in_ok-met.ensures) c.in_ok-has.ensures
