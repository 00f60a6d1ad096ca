use Rattle.std.proofs.Common.{◌≡◌, drop, Option}
use Rattle.hc_model.specs.Overrides.{Kept}
use Rattle.hc_model.specs.declared.request.Request.{Request}
use Rattle.hc_ends.specs.Lending.{site_of}
use Rattle.hc_ends.specs.Trying.{IsFirstIn, Spends}
use Rattle.hc_ends.proofs.trying.first_shown.Given as goal

abbrev pub invariant-loop-end : goal.invariant-loop-end
invariant-loop-end g l =
    ((found : Option Request) → IsFirstIn (site_of l.chains) l.scope l.headers (drop l.end-index l.bad) found
    → IsFirstIn (site_of l.chains) l.scope l.headers l.bad found)
    × Spends l.initial.evals l.evals l.end-index × (g.O.Overrides.fixed l.over ≡ g.O.Overrides.fixed l.initial.over)
    × Kept (g.O.Overrides.loaded l.initial.over) (g.O.Overrides.loaded l.over)
