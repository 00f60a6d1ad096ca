use Rattle.std.proofs.Common.{◌⊎◌, map, vec_len}
use Rattle.std.specs.List.{Contains}
use Rattle.hc_htaccess.specs.Reading.{reading_in}
use Rattle.hc_kept.specs.Files.{AreFilesOf, AreFresh, as_loaded, fresh_as_loaded}
use Rattle.hc_kept.specs.declared.cached.FreshFile.{FreshFile}
use Rattle.hc_model.specs.declared.config.Config.{Config}
use Rattle.hc_kept.proofs.files.KeptFiles.keep.Given as goal

-- What was kept so far is right, and each fresh one is kept or still to come.
abbrev pub invariant-files : goal.invariant-files
invariant-files l =
    ((config : Config) → AreFilesOf l.world config l.fn.self
    → AreFresh (reading_in l.world.files config) l.fn.fresh.items
    → AreFilesOf l.world config l.self × AreFresh (reading_in l.world.files config) l.fresh.items)
    × ((file : FreshFile) → Contains l.fn.fresh.items file
    → Contains l.fresh.items file ⊎ Contains (map as_loaded l.self) (fresh_as_loaded file))

abbrev pub decreases-files : goal.decreases-files
decreases-files l = vec_len l.fresh
