use Rattle.std.proofs.Common.{◌≡◌, drop}
use Rattle.std.specs.List.{flat_map}
use Rattle.hc_model.specs.Overrides.{Kept}
use Rattle.hc_named.specs.Gathering.{with_rules}
use Rattle.hc_named.specs.Named.{dir_rules}
use Rattle.hc_named.proofs.names.add_files.Given as goal

-- what is left gives what all give
abbrev pub invariant-loop-dir : goal.invariant-loop-dir
invariant-loop-dir g l =
    (with_rules l.gathered (flat_map
    (dir_rules (g.O.Overrides.reading (g.O.Overrides.fixed l.initial.over)) l.config l.host) (drop l.dir-index l.dirs))
    ≡ with_rules l.initial.gathered (flat_map
    (dir_rules (g.O.Overrides.reading (g.O.Overrides.fixed l.initial.over)) l.config l.host) l.dirs))
    × (g.O.Overrides.fixed l.over ≡ g.O.Overrides.fixed l.initial.over)
    × Kept (g.O.Overrides.loaded l.initial.over) (g.O.Overrides.loaded l.over)
