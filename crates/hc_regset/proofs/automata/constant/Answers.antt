use Rattle.std.proofs.lemmas.Result.{IfOk-weaker}
use Rattle.hc_regset.proofs.Tables.{constant_accepts, is_table}
use Rattle.hc_regset.proofs.automata.constant.Goals as goal

pub from_table-requires : goal.from_table-requires
from_table-requires c = is_table c.args.answer

pub returns : goal.returns
returns c = IfOk-weaker c.from_table.result _ _ (constant_accepts c.args.answer) c.from_table.ensures
