use Rattle.std.proofs.Common.{sym, ◌∙◌}
use Rattle.hc_vhost.specs.Names.{fits}
use Rattle.hc_vhost.proofs.Fitting.{any_here}
use Rattle.hc_vhost.proofs.name.fits_some_end.Goals as goal

pub returns-in-Ends : goal.returns-in-Ends
returns-in-Ends c =
    sym (c.loop-behind.invariant ∙ any_here (fits c.loop-behind.alias.now) c.loop-behind.name.now c.in-Ends.ensures)
