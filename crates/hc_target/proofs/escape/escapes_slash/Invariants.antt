use Rattle.hc_target.proofs.Common.{◌≡◌, drop, escapes_slash}
use Rattle.hc_target.proofs.escape.escapes_slash.Given as goal

-- none so far
abbrev pub invariant-loop-index : goal.invariant-loop-index
invariant-loop-index l = escapes_slash (drop l.index l.path) ≡ escapes_slash l.path
