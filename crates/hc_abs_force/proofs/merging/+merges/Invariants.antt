use Rattle.std.proofs.Common.{◌≡◌, drop}
use Rattle.std.specs.List.{list_any}
use Rattle.hc_abs_force.specs.Merging.{section_merges}
use Rattle.hc_abs_force.proofs.merging.+merges.Given as goal

-- the sections that are left decide
abbrev pub invariant-some_merges-loop-section : goal.invariant-some_merges-loop-section
invariant-some_merges-loop-section l =
    list_any section_merges l.section-items ≡ list_any section_merges (drop l.section-index l.section-items)
