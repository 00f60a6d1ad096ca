use Rattle.std.proofs.Common.{◌≡◌, length}
use Rattle.hc_serve.specs.ServerRules.{behind_slashes}
use Rattle.hc_serve.proofs.component.behind_slashes.Given as goal

abbrev pub invariant-loop-rest : goal.invariant-loop-rest
invariant-loop-rest l = behind_slashes l.rest ≡ behind_slashes l.text

abbrev pub decreases-loop-rest : goal.decreases-loop-rest
decreases-loop-rest l = length l.rest
