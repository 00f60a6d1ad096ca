use Rattle.std.proofs.Common.{drop, map}
use Rattle.hc_abs_authz.specs.Asking.{says}
use Rattle.hc_abs_pass.specs.Authorizing.{in_net}
use Rattle.hc_abs_authz.proofs.Sequences.{SoFar}
use Rattle.hc_abs_authz.proofs.leaves.nets_answers.Given as goal

abbrev pub invariant-loop-net : goal.invariant-loop-net
invariant-loop-net l =
    SoFar (says l.asking) (map in_net l.nets) (map in_net (drop l.net-index l.nets)) l.answers
