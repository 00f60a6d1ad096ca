use Rattle.hc_pat_lang.proofs.Joining.{joined_accepts, sole, sole_set}
use Rattle.hc_pat_lang.proofs.joined.others_joined.Goals as goal

pub returns-in-len1 : goal.returns-in-len1
returns-in-len1 c =
    sole_set c.args.sets.now c.set-item.result c.in_ok-same.same (sole c.args.sets.now c.set-item.result c.in-len1.len_at_least c.in-len1.len_below c.set-item.is) c.in_ok-same.ensures.cases

pub returns : goal.returns
returns c = joined_accepts c.args.sets.now _ (rw c.start_of.ensures.value at c.in_ok-made.ensures)
