use Rattle.hc_abs_restart.proofs.Common.{refl}
use Rattle.hc_model.specs.declared.outcome.LimitKind.TheVariants.{Redirects}
use Rattle.hc_abs_pass.specs.declared.ends.Left.TheVariants as left
use Rattle.hc_abs_restart.proofs.Following.{limit_reached, pass_follows}
use Rattle.hc_abs_restart.proofs.restart.next_pass.Goals as goal

pub returns-then-restart : goal.returns-then-restart
returns-then-restart c =
    limit_reached c.args.restart c.args.named (record { tied = c.args.named.tied; left = left.Limit Redirects })
    c.if-restart.true refl refl

pub returns : goal.returns
returns c =
    pass_follows c.args.restart c.args.named c.in_ok-stored.stored c.in_ok-tied.tied c.if-restart.false
    c.in_ok-stored.ensures c.in_ok-tied.ensures
