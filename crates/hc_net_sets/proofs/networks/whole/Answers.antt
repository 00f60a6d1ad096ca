use Rattle.hc_net_sets.proofs.Common.{◌∙◌, ap}
use Rattle.hc_net_sets.proofs.Pieces.{reads_from, whole_read}
use Rattle.hc_net_sets.specs.Marks.{behind_number}
use Rattle.hc_net_sets.specs.Sought.{count_of}
use Rattle.hc_net_sets.proofs.networks.whole.Goals as goal

pub returns : goal.returns
returns c text bytes =
    c.in_ok-made.ensures text bytes
    ∙ ap (λ first. reads_from c.args.sought.now first text)
    (c.behind_number-first.ensures.value ∙ ap (behind_number c.args.sought.now) c.count.ensures.value)
    ∙ whole_read c.args.sought.now (count_of c.args.sought.now.family) text
