use Rattle.std.proofs.Common.{Option, drop}
use Rattle.hc_cert.specs.declared.verdict.Found.{Found}
use Rattle.hc_cert.proofs.Faulty.{FirstFrom}
use Rattle.hc_cert.proofs.faults.first_in.Given as goal

-- the first of those that are left is the first of all
abbrev pub invariant-loop-segment : goal.invariant-loop-segment
invariant-loop-segment l = (found : Option Found)
    → FirstFrom l.scene l.condition l.own.own.now (drop l.segment-index l.own.branches.items) found
    → FirstFrom l.scene l.condition l.own.own.now l.own.branches.items found
