use Rattle.std.proofs.Common.{◌≡◌, ◌++◌}
use Rattle.hc_flat.specs.Lent.{left}
use Rattle.hc_claim_lines.specs.ClaimLines.{places_in}
use Rattle.hc_claim_lines.proofs.lines.places_in.Given as goal

-- the places that were found, and those of the entries that are left, are all
abbrev pub invariant-loop-entry : goal.invariant-loop-entry
invariant-loop-entry l = l.places ++ places_in l.subject (left l.entry-iterator) ≡ places_in l.subject l.entries
