use Rattle.std.specs.Rc.{rc_value}
use Rattle.hc_abs_dir.proofs.Common.{subst, false}
use Rattle.hc_abs_pass.specs.Passing.{left_plan}
use Rattle.hc_abs_dir.specs.Behind.{AreBy}
use Rattle.hc_abs_dir.proofs.Ruling.{ruled_fits}
use Rattle.hc_abs_dir.proofs.ruled.ruled.Goals as goal

pub returns : goal.returns
returns c =
    let lent = rc_value c.args.settings.now in
    let decisions = c.args.decisions.now in
    let sides = c.in_ok-sides.sides in
    ruled_fits c.args.ground lent decisions c.args.dir.now c.in_ok-unset.unset c.args.tied sides
    c.in_ok-found.found.items c.in_ok-more.more.items c.append.new.self.items c.in_ok-append.ensures.items
    c.in_ok-unset.ensures c.in_ok-sides.ensures c.in_ok-found.ensures
    (subst (λ lent. AreBy c.args.ground lent (λ own settings. left_plan own settings decisions false) sides.failed
    c.in_ok-more.more.items) c.as_ref.ensures c.in_ok-more.ensures)
