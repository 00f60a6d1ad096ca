use Rattle.hc_dfa.proofs.Among.{listed}
use Rattle.hc_dfa.proofs.lists.listed.Goals as goal

pub returns : goal.returns
returns c = listed c.args.texts.now _ c.in_ok-made.ensures
