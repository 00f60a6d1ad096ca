use Rattle.hc_rw_sets.proofs.Common.{◌∙◌, false}
use Rattle.hc_rw_sets.proofs.Readings.{read_any}
use Rattle.hc_rw_sets.proofs.questions.with_question.Goals as goal

pub returns : goal.returns
returns c text bytes = c.in_ok-made.ensures text bytes ∙ read_any text false
