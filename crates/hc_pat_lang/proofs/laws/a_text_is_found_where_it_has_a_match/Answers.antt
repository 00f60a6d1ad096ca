use Rattle.hc_pat_lang.proofs.Covering.{found_by_match}
use Rattle.hc_pat_lang.proofs.laws.a_text_is_found_where_it_has_a_match.Goals as goal

pub returns : goal.returns
returns c = found_by_match
