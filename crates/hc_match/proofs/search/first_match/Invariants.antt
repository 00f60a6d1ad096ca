use Rattle.hc_match.proofs.Common.{◌≡◌, ◌-◌, [], pattern_of, first_match, match_among}
use Rattle.hc_match.proofs.search.first_match.Given as goal

abbrev pub invariant-places : goal.invariant-places
invariant-places l = record {
  unset : l.search.settings.items ≡ [];
  left : match_among l.text (pattern_of l.pat) (l.end - l.from) l.from ≡ first_match l.text (pattern_of l.pat);
}

abbrev pub decreases-places : goal.decreases-places
decreases-places l = l.end - l.from
