use Rattle.std.proofs.Common.{◌≡◌, drop, true}
use Rattle.std.specs.List.{find, list_all}
use Rattle.hc_members.specs.Requests.{is_of_scope}
use Rattle.hc_model.specs.Overrides.{Kept}
use Rattle.hc_ends.specs.Breaking.{is_broken}
use Rattle.hc_ends.specs.Lending.{site_of}
use Rattle.hc_ends.specs.Trying.{Tries}
use Rattle.hc_ends.proofs.trying.first_of.Given as goal

abbrev pub invariant-loop-request : goal.invariant-loop-request
invariant-loop-request g l =
    (find (is_broken (site_of l.chains)) (drop l.request-index l.requests)
    ≡ find (is_broken (site_of l.chains)) l.requests)
    × (list_all (is_of_scope l.scope) (drop l.request-index l.requests) ≡ true)
    × Tries l.initial.evals l.evals l.request-index × (g.O.Overrides.fixed l.over ≡ g.O.Overrides.fixed l.initial.over)
    × Kept (g.O.Overrides.loaded l.initial.over) (g.O.Overrides.loaded l.over)
