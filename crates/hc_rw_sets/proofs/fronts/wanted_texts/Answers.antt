use Rattle.std.proofs.Common.{◌∙◌}
use Rattle.hc_rw_sets.proofs.Beside.{wanted_read}
use Rattle.hc_rw_sets.proofs.fronts.wanted_texts.Goals as goal

pub returns : goal.returns
returns c text bytes =
    c.in_ok-made.ensures text bytes
    ∙ wanted_read c.args.wanted.nocase c.args.wanted.goes_on c.args.wanted.text.now text bytes
