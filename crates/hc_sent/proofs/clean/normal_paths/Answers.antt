use Rattle.std.proofs.Common.{◌∙◌, ◌&&◌}
use Rattle.hc_sent.proofs.clean.normal_paths.Goals as goal

pub returns : goal.returns
returns c text bytes =
    c.in_ok-made.ensures text bytes ∙ (λ i. c.in_ok-clean.ensures text bytes i && c.in_ok-plain.ensures text bytes i)
