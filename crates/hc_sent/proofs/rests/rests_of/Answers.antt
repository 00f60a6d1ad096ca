use Rattle.std.proofs.Common.{◌∙◌}
use Rattle.hc_sent.proofs.Places.{rest_read}
use Rattle.hc_sent.proofs.rests.rests_of.Goals as goal

pub returns : goal.returns
returns c text bytes = c.in_ok-made.ensures text bytes ∙ rest_read c.args.kind text bytes
