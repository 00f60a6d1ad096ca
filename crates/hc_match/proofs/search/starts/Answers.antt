use Rattle.hc_match.proofs.Common.{pattern_of}
use Rattle.hc_match.proofs.Starts.{leads}
use Rattle.hc_match.proofs.search.starts.Goals as goal

pub returns : goal.returns
returns c = leads c.front_bytes.result (pattern_of c.lead.result.now) (pattern_of c.args.pat.now) c.lead.ensures
    c.front_bytes.ensures
