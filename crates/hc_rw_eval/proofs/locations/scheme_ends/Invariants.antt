use Rattle.std.proofs.Common.{◌≡◌, drop}
use Rattle.hc_rw_eval.specs.Locations.{scheme_ends}
use Rattle.hc_rw_eval.proofs.locations.scheme_ends.Given as goal

-- what is left ends a scheme where the whole does
abbrev pub invariant-loop-place : goal.invariant-loop-place
invariant-loop-place l = scheme_ends (drop l.place l.text) ≡ scheme_ends l.text
