use Rattle.std.proofs.Common.{◌++◌, List, drop}
use Rattle.hc_model.specs.declared.request.Header.{Header}
use Rattle.hc_candidates.specs.Candidates.{AreLeast}
use Rattle.hc_candidates.proofs.picking.least_headers.Given as goal

-- with those of the names that are left they are those of all
abbrev pub invariant-loop-name : goal.invariant-loop-name
invariant-loop-name l =
    (rest : List Header) → AreLeast l.cell (drop l.name-index l.names) rest
    → AreLeast l.cell l.names (l.headers ++ rest)
