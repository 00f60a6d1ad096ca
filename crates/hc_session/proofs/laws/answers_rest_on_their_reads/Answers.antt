use Rattle.std.proofs.Common.{sym}
use Rattle.hc_session.proofs.Standing.{answers_agree, configurations_agree}
use Rattle.hc_session.proofs.laws.answers_rest_on_their_reads.Goals as goal

pub returns : goal.returns
returns c one other main config request is same =
    (configurations_agree main config request one other is same, sym (answers_agree config request one other same))
