use Rattle.hc_match.proofs.Common.{refl, pattern_of}
use Rattle.hc_match.proofs.Starts.{first_place}
use Rattle.hc_match.proofs.search.places.Goals as goal

pub returns-then-begins_at_start : goal.returns-then-begins_at_start
returns-then-begins_at_start c =
    first_place c.args.text.now (pattern_of c.args.pat.now) (c.if-begins_at_start.ensures refl)
