use Rattle.std.proofs.Common.{◌∙◌, ap}
use Rattle.hc_base.specs.Paths.{is_clean}
use Rattle.hc_plan.specs.Slots.{Slot}
use Rattle.hc_cert.proofs.Cells.{cut_is}
use Rattle.hc_cert.specs.Cells.{is_end}
use Rattle.hc_cert.specs.Coded.{met_at, met_by}
use Rattle.hc_cert.proofs.ready.states_of.Goals as goal

pub returns : goal.returns
returns c =
    let named = c.args.named.now in
    let ends = c.in_ok-ends.ensures is_end c.requires.ends
    ∙ ap (met_at Slot.End is_end) (c.in_ok-paths.ensures is_clean c.requires.paths) in
    record {
      cell = c.in_ok-cell.ensures ∙ ap (met_by named.at) ends ∙ cut_is named.at named.cell;
      ties = c.ties_at.ensures;
    }
