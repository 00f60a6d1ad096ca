use Rattle.hc_rw_sets.proofs.Queries.{appended_accept}
use Rattle.hc_rw_sets.proofs.questions.appended_queries.Goals as goal

pub returns : goal.returns
returns c =
    appended_accept c.args.new.now c.args.old.now _ _ _ _ _ _ _ c.in_ok-no_new.ensures c.in_ok-old_alone.ensures
    c.in_ok-no_old.ensures c.in_ok-new_alone.ensures c.in_ok-either.ensures c.in_ok-both.ensures
    c.in_ok-made.ensures
