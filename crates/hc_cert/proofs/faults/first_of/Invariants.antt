use Rattle.std.proofs.Common.{◌≡◌, Option, drop}
use Rattle.hc_cert.specs.declared.verdict.Rejection.{Rejection}
use Rattle.hc_cert.proofs.Faulty.{FirstAmong}
use Rattle.hc_cert.proofs.faults.first_of.Given as goal

-- the first of those that are left is the first of all
abbrev pub invariant-loop-own : goal.invariant-loop-own
invariant-loop-own l = (l.number ≡ l.own-index)
    × ((said : Option Rejection)
    → FirstAmong l.scene l.condition l.own-index (drop l.own-index l.walked) said
    → FirstAmong l.scene l.condition 0 l.walked said)
