use Rattle.std.proofs.Common.{◌≡◌, Option, drop}
use Rattle.hc_cert.specs.declared.verdict.Rejection.{Rejection}
use Rattle.hc_cert.proofs.Said.{ManyFrom}
use Rattle.hc_cert.proofs.starting.too_many.Given as goal

abbrev pub invariant-loop-own : goal.invariant-loop-own
invariant-loop-own l = (l.number ≡ l.own-index)
    × ((said : Option Rejection) → ManyFrom l.own-index (drop l.own-index l.walked) said → ManyFrom 0 l.walked said)
