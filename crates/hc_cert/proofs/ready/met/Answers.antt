use Rattle.std.proofs.lemmas.Result.{IfOk-weaker}
use Rattle.hc_cells.specs.Cells.{Restricts}
use Rattle.hc_dfa.specs.Automata.{accepts}
use Rattle.hc_cert.proofs.Cells.{met_is}
use Rattle.hc_cert.proofs.ready.met.Goals as goal

pub returns : goal.returns
returns c = IfOk-weaker c.restrict.result (Restricts c.args.cell.now c.args.slot.now (accepts c.args.set.now)) _
    (λ made is own are. met_is c.args.cell.now made c.args.slot.now c.args.set.now own are is) c.restrict.ensures
