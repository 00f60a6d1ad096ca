use Rattle.hc_target.proofs.Common.{◌≡◌, drop, has_bad_escape}
use Rattle.hc_target.proofs.escape.has_bad_escape.Given as goal

-- none so far
abbrev pub invariant-loop-index : goal.invariant-loop-index
invariant-loop-index l = has_bad_escape (drop l.index l.path) ≡ has_bad_escape l.path
