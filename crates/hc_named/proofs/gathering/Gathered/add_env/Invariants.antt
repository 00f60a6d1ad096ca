use Rattle.std.proofs.Common.{◌≡◌, length}
use Rattle.hc_named.specs.Gathering.{with_names}
use Rattle.hc_named.specs.Named.{stripped}
use Rattle.hc_named.proofs.gathering.Gathered.add_env.Given as goal

-- what is left of the name gives what all of it gives
abbrev pub invariant-fronts : goal.invariant-fronts
invariant-fronts l =
    (with_names l.self.variables (stripped l.rest) ≡ with_names l.fn.self.variables (stripped l.name))
    × (l.self.headers ≡ l.fn.self.headers)

abbrev pub decreases-fronts : goal.decreases-fronts
decreases-fronts l = length l.rest
