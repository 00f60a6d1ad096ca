use Rattle.hc_pat_lang.proofs.Covering.{covered}
use Rattle.hc_pat_lang.proofs.laws.the_first_match_is_covered.Goals as goal

pub returns : goal.returns
returns c = covered
