use Rattle.hc_dfa.proofs.Common.{◌≡◌, length, accepts, AreFound}
use Rattle.hc_dfa.proofs.first.first_members.Given as goal

abbrev pub invariant-loop-taken : goal.invariant-loop-taken
invariant-loop-taken l = record { len : length l.found ≡ l._taken; found : AreFound (accepts l.a) l.found l.rest }
