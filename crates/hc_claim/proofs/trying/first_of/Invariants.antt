use Rattle.std.proofs.Common.{◌≡◌, drop, true}
use Rattle.std.specs.List.{list_all}
use Rattle.hc_members.specs.Requests.{is_of_scope}
use Rattle.hc_model.specs.Overrides.{Kept}
use Rattle.hc_claim.specs.Trying.{Tries, asked_in, broken_of}
use Rattle.hc_claim.proofs.trying.first_of.Given as goal

abbrev pub invariant-loop-request : goal.invariant-loop-request
invariant-loop-request g l =
    (broken_of (asked_in l.question) (drop l.request-index l.requests) ≡ broken_of (asked_in l.question) l.requests)
    × (list_all (is_of_scope l.question.scope.now) (drop l.request-index l.requests) ≡ true)
    × Tries l.initial.evals l.evals l.request-index × (g.O.Overrides.fixed l.over ≡ g.O.Overrides.fixed l.initial.over)
    × Kept (g.O.Overrides.loaded l.initial.over) (g.O.Overrides.loaded l.over)
