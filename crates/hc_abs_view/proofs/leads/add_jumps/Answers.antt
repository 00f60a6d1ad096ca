use Rattle.std.proofs.Common.{map}
use Rattle.std.specs.Prelude.{reverse}
use Rattle.hc_abs_view.specs.Tokens.{fork_of, token_of}
use Rattle.hc_abs_view.proofs.Leading.{adds_forks}
use Rattle.hc_abs_view.proofs.leads.add_jumps.Goals as goal

pub returns : goal.returns
returns c =
    adds_forks c.args.expr.now c.args.lead (map token_of (reverse c.in_ok-kept.kept.items))
    (map fork_of c.args.jumps.now.items) (map fork_of c.take_all.new.jumps.items) c.in_ok-kept.ensures
    c.in_ok-take_all.ensures
