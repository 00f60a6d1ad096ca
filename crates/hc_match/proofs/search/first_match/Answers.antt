use Rattle.hc_match.proofs.Common.{◌∙◌, pattern_of, first_match, nothing_held}
use Rattle.hc_match.proofs.Places.{later}
use Rattle.hc_match.proofs.search.first_match.Goals as goal

pub places-preserved : goal.places-preserved
places-preserved c =
    let says = rw c.in-Failed.is at c.in_ok-from_place.ensures in let pattern = pattern_of c.args.pat.now in
    record {
      unset = says.1;
      left = c.next_place-from-in-Failed.ensures.same pattern c.places-end.result c.starts-starts.ensures
          ∙ later c.args.text.now pattern c.places-end.result c.places.from (first_match c.args.text.now pattern)
          c.places-test.true (says.0 nothing_held) c.places.invariant.left;
    }
