use Rattle.std.specs.Rc.{rc_value}
use Rattle.hc_abs_dir.proofs.Common.{◌∙◌, sym, ap, subst, false, LentSettings}
use Rattle.hc_abs_left.specs.Segments.{AreLeft}
use Rattle.hc_abs_dir.proofs.Ruling.{switched_off, switched_on, undirected}
use Rattle.hc_abs_dir.proofs.ruled.directory_branches.Goals as goal

pub returns-in_default : goal.returns-in_default
returns-in_default c =
    let lent = rc_value c.args.settings.now in
    let found = c.in_ok-found.found.items in
    undirected c.args.ground lent c.args.decisions.now c.args.tied found
    (ap (λ (own : LentSettings). own.force.dir) (sym c.as_ref-own.ensures) ∙ c.in_default.is)
    (subst (λ own. AreLeft c.args.ground own c.args.decisions.now false c.args.tied found) c.as_ref-own.ensures
    c.in_ok-found.ensures)

pub returns-then-not-own : goal.returns-then-not-own
returns-then-not-own c =
    let lent = rc_value c.args.settings.now in
    let found = c.in_ok-found-2.found.items in
    switched_off c.args.ground lent c.args.decisions.now c.args.tied found c.in-Some.dir
    (ap (λ (own : LentSettings). own.force.dir) (sym c.as_ref-own.ensures) ∙ c.in-Some.is)
    (ap (λ (own : LentSettings). own.force.engine) (sym c.as_ref-own.ensures) ∙ c.if-not-own.true)
    (subst (λ own. AreLeft c.args.ground own c.args.decisions.now false c.args.tied found) c.as_ref-own.ensures
    c.in_ok-found-2.ensures)

pub returns : goal.returns
returns c =
    let lent = rc_value c.args.settings.now in
    switched_on c.args.ground lent c.args.decisions.now c.args.tied c.in_ok-found-3.found.items c.in-Some.dir
    (ap (λ (own : LentSettings). own.force.dir) (sym c.as_ref-own.ensures) ∙ c.in-Some.is)
    (ap (λ (own : LentSettings). own.force.engine) (sym c.as_ref-own.ensures) ∙ c.if-not-own.false)
    c.in_ok-found-3.ensures
