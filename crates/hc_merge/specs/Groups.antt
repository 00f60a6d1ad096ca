-- The groups of sections, by what they look at.
-- Apache manual, "Configuration Sections", "How the sections are merged".
use Rattle.std.specs.Prelude.{Bool, true, false}
use Rattle.hc_model.specs.declared.section.Reach.{Reach}
use Rattle.hc_model.specs.declared.section.Reach.TheVariants.{Dir, DirSearch, Files, Location, LocationGlob}
use Rattle.hc_model.specs.declared.section.Reach.TheVariants.{LocationSearch, Otherwise, When}
use Rattle.hc_merge.specs.declared.group.Group.{Group}
use Rattle.hc_merge.specs.declared.group.Group.TheVariants.{Components, Conditions, Directories, Names, Urls}

abbrev pub group_of : Reach → Group
group_of (Dir pattern) = Directories
group_of (DirSearch pattern) = Names
group_of (Files pattern) = Components
group_of (Location path) = Urls
group_of (LocationGlob pattern) = Urls
group_of (LocationSearch pattern) = Urls
group_of (When test) = Conditions
group_of (Otherwise test) = Conditions

abbrev pub same_group : Group → Group → Bool
same_group Directories Directories = true
same_group Names Names = true
same_group Components Components = true
same_group Urls Urls = true
same_group Conditions Conditions = true
same_group _ _ = false
