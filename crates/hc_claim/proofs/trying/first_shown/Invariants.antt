use Rattle.std.proofs.Common.{◌≡◌, drop, Option}
use Rattle.hc_model.specs.Overrides.{Kept}
use Rattle.hc_model.specs.declared.request.Request.{Request}
use Rattle.hc_claim.specs.Trying.{IsFirstIn, Spends, asked_in}
use Rattle.hc_claim.proofs.trying.first_shown.Given as goal

abbrev pub invariant-loop-leaf : goal.invariant-loop-leaf
invariant-loop-leaf g l =
    ((found : Option Request) → IsFirstIn (asked_in l.question) l.headers (drop l.leaf-index l.bad) found
    → IsFirstIn (asked_in l.question) l.headers l.bad found)
    × Spends l.initial.evals l.evals l.leaf-index × (g.O.Overrides.fixed l.over ≡ g.O.Overrides.fixed l.initial.over)
    × Kept (g.O.Overrides.loaded l.initial.over) (g.O.Overrides.loaded l.over)
