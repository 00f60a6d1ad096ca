use Rattle.hc_match.proofs.Common.{ap, pattern_of, last_ways, stop-behind}
use Rattle.hc_match.proofs.Saying.{said}
use Rattle.hc_match.proofs.search.from_place.Goals as goal

pub returns : goal.returns
returns c =
    said c.pattern.result c.pattern.new.self _ _
    (λ held. ap (λ ways. ways c.args.from held)
    (stop-behind (last_ways c.args.text.now (pattern_of c.args.pat.now)))) c.pattern.ensures.says
