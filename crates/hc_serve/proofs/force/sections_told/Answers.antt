use Rattle.hc_serve.proofs.Common.{◌∙◌, ap, with_events}
use Rattle.hc_serve.proofs.Told.{each_told}
use Rattle.hc_serve.specs.Passing.{sections_told}
use Rattle.hc_serve.proofs.force.sections_told.Goals as goal

pub returns : goal.returns
unfolding sections_told
returns c shown =
    each_told c.args.log.now _ c.args.here.force.sections c.args.here _
    (c.in_ok-tell_each.ensures ∙ ap (λ events. with_events c.args.log.now events) c.as_slice.ensures)
