use Rattle.std.proofs.Common.{◌∙◌, ap, false}
use Rattle.hc_dfa.specs.Readings.{reading_from}
use Rattle.hc_abs_force.specs.Components.{ends_at, next_spot}
use Rattle.hc_abs_force.proofs.LastIn.{last_read}
use Rattle.hc_abs_force.proofs.components.last_in.Goals as goal

pub returns : goal.returns
returns c text bytes =
    let set = c.args.set.now in
    c.in_ok-made.ensures text bytes
    ∙ ap (λ state. reading_from (next_spot set) (ends_at set) (record { state = state; ended = false }) text)
    c.start.ensures.value
    ∙ last_read set text
