use Rattle.hc_abs_restart.proofs.Renaming.{none_looked_at}
use Rattle.hc_abs_restart.proofs.starting.without_names.Goals as goal

pub returns : goal.returns
returns c =
    none_looked_at c.args.before.now c.in_ok-bare.bare c.in_ok-rewritten.rewritten c.in_ok-made.made
    c.in_ok-paths.paths c.in_ok-bare.ensures c.in_ok-paths.ensures c.in_ok-rewritten.ensures c.in_ok-made.ensures
