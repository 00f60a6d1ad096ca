use Rattle.std.proofs.Common.{◌≡◌, ◌++◌, drop, filter, map}
use Rattle.hc_candidates.specs.Candidates.{request_with}
use Rattle.hc_members.specs.Requests.{is_of_scope}
use Rattle.hc_candidates.proofs.picking.of_scope.Given as goal

-- those so far, and those of the paths that are left
abbrev pub invariant-loop-path : goal.invariant-loop-path
invariant-loop-path l =
    l.found.items ++ filter (is_of_scope l.scope) (map (request_with l.scope l.common) (drop l.path-index l.paths))
    ≡ filter (is_of_scope l.scope) (map (request_with l.scope l.common) l.paths)
