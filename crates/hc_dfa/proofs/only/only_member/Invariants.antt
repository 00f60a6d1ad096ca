use Rattle.hc_dfa.proofs.Common.{◌<◌, List, ℕ, Option, slice_index, states, accepts_from}
use Rattle.hc_dfa.specs.Members.{IsOnlyOf, behind}
use Rattle.hc_dfa.proofs.only.only_member.Given as goal

abbrev pub invariant-bytes : goal.invariant-bytes
invariant-bytes l = record {
  state : l.state < states l.a;
  only : (found : Option (List ℕ)) → IsOnlyOf (accepts_from l.a l.state) found
      → IsOnlyOf (accepts_from l.a 0) (behind l.bytes.items found);
}

abbrev pub decreases-bytes : goal.decreases-bytes
decreases-bytes l = slice_index l.distances.items l.state
