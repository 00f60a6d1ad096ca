use Rattle.std.proofs.Common.{subst}
use Rattle.hc_abs_force.specs.Asking.{exprs}
use Rattle.hc_abs_force.specs.Marking.{AreMarked}
use Rattle.hc_abs_force.proofs.Answering.{held_fits}
use Rattle.hc_abs_force.proofs.marking.held_answers.Goals as goal

pub returns : goal.returns
returns c =
    held_fits c.args.scene (exprs c.args.chain.now) c.args.expr.now c.args.one c.in_ok-viewed.viewed.items
    c.in_ok-found.found.items c.in_ok-viewed.ensures.branches
    (subst (λ marks. AreMarked marks c.in_ok-viewed.viewed.items c.in_ok-found.found.items) c.deref.ensures.value
    c.in_ok-found.ensures)
