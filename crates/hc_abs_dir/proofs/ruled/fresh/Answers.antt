use Rattle.std.specs.Rc.{rc_value}
use Rattle.hc_abs_dir.proofs.Common.{sym, subst, false, Accepts, Ground}
use Rattle.hc_abs_pass.specs.Passing.{is_itself, left_plan}
use Rattle.hc_abs_dir.specs.Begun.{named_plan}
use Rattle.hc_abs_dir.specs.Behind.{AreBy}
use Rattle.hc_abs_dir.proofs.Ruling.{named_fits}
use Rattle.hc_abs_dir.proofs.ruled.fresh.Goals as goal

pub returns : goal.returns
returns c =
    let lent = rc_value c.args.settings.now in
    let decisions = c.args.decisions.now in
    let dir = c.args.dir.now in
    let sides = c.in_ok-sides.sides in
    subst (λ given. AreBy c.args.ground lent (λ own settings. named_plan own settings dir decisions) given
    c.append.new.self.items) (sym c.in-Some.is)
    (named_fits c.args.ground lent decisions dir c.in_ok-own.own c.in-Some.tied sides c.in_ok-found.found.items
    c.in_ok-more.more.items c.append.new.self.items c.in_ok-append.ensures.items
    (subst (λ dir. (own : Ground) → Accepts c.in_ok-own.own (is_itself own dir)) c.as_bytes.ensures c.in_ok-own.ensures)
    c.in_ok-sides.ensures
    (subst (λ lent. AreBy c.args.ground lent (λ own settings. left_plan own settings decisions false) sides.held
    c.in_ok-found.found.items) c.as_ref.ensures c.in_ok-found.ensures) c.in_ok-more.ensures)
