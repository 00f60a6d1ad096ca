-- What holds of the sections that may be in force.
use Rattle.std.specs.Prelude.{List, []}
use Rattle.hc_merge.specs.Candidates.{Path}
use Rattle.hc_merge.specs.Order.{ordered_sections}
use Rattle.hc_merge.specs.Overriding.{Files_at}
use Rattle.hc_model.specs.declared.config.Config.{Config}
use Rattle.hc_model.specs.declared.config.HostId.{HostId}
use Rattle.hc_abs_pass.specs.Sections.{AreNested, Settles}
use Rattle.hc_abs_force.specs.Merging.{merges}

-- What merges nothing sets nothing.
abbrev pub MergesSettle : Type 0
MergesSettle = Settles merges

-- Sections come behind those around them, which merge what they do.
abbrev pub SectionsAreNested : Type 0
SectionsAreNested = (config : Config) (host : HostId) (files : Files_at) (dirs : List Path)
    → AreNested merges [] (ordered_sections config host files dirs)
