-- What the code calls what a section looks at.
use Rattle.std.specs.Prelude.{ℕ, List, Result}
use Rattle.hc_base.specs.declared.fault.AtByte.{AtByte}
use Rattle.hc_model.specs.declared.section.Reach.{Reach}
use Rattle.hc_model.specs.declared.section.Reach.TheVariants as reach
use Rattle.hc_pattern.specs.Pattern.{Pattern}
use Rattle.hc_config.specs.Sections.{directory, location, name_glob}
use Rattle.hc_config.specs.declared.sections.Seen.{Seen}
use Rattle.hc_config.specs.declared.sections.Seen.TheVariants.{Directory, Files, Location}

abbrev pub reach_of : Seen → Pattern → Reach
reach_of Directory = reach.DirSearch
reach_of Files = reach.Files
reach_of Location = reach.LocationSearch

abbrev pub plain_of : Seen → List ℕ → Result Reach AtByte
plain_of Directory = directory
plain_of Files = name_glob
plain_of Location = location
