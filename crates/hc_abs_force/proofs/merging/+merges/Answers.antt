use Rattle.std.proofs.Common.{◌∙◌, sym}
use Rattle.hc_abs_force.proofs.Settling.{merges_inside}
use Rattle.hc_abs_force.proofs.merging.+merges.Goals as goal

pub merges-returns : goal.merges-returns
merges-returns t c = c.some_merges.ensures ∙ sym (merges_inside c.args.body.now (sym c.if-sets.ensures))
