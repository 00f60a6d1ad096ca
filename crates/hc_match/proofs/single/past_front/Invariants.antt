use Rattle.hc_match.proofs.Common.{◌≡◌, pattern_of, Held, last_ways}
use Rattle.hc_match.proofs.single.past_front.Given as goal

abbrev pub invariant-front : goal.invariant-front
invariant-front l = (held : Held) → last_ways l.text (pattern_of l.rest) l.from held
    ≡ last_ways l.text (pattern_of l.pat) l.at held
