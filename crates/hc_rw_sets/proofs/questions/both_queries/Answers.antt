use Rattle.hc_rw_sets.proofs.Queries.{both_accept}
use Rattle.hc_rw_sets.proofs.questions.both_queries.Goals as goal

pub returns : goal.returns
returns c =
    both_accept c.args.new.now c.args.old.now _ _ _ _ c.in_ok-some_new.ensures c.in_ok-some_old.ensures
    c.in_ok-behind.ensures c.in_ok-made.ensures
