use Rattle.std.proofs.Common.{◌∙◌, arith}
use Rattle.hc_rw_sets.proofs.Numbered.{port_read}
use Rattle.hc_rw_sets.proofs.ports.port_texts.Goals as goal

pub returns : goal.returns
returns c text bytes =
    c.in_ok-made.ensures text bytes
    ∙ port_read c.args.scheme c.args.port (omega arith) (omega arith) text bytes
