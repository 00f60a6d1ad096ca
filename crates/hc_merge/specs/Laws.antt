-- What holds of all configurations.
-- Apache manual, core, AllowOverride: where nothing is allowed, no `.htaccess` is looked at.
use Rattle.std.specs.Prelude.{◌≡◌}
use Rattle.std.specs.List.{flat_map}
use Rattle.hc_model.specs.Walking.{walk}
use Rattle.hc_model.specs.World.{IsWorld, World}
use Rattle.hc_model.specs.declared.config.Config.{Config}
use Rattle.hc_model.specs.declared.config.HostId.{HostId}
use Rattle.hc_model.specs.declared.request.View.{View}
use Rattle.hc_model.specs.declared.walk.Walk.{Walk}
use Rattle.hc_merge.specs.Candidates.{Path}
use Rattle.hc_merge.specs.Overriding.{AgreeAt, Files_at, allowed, wanted_by, wants}
use Rattle.hc_merge.specs.Settings.{effective}

-- Files that agree where they are wanted put the same in force.
abbrev pub WantedFilesSuffice : Type 0
WantedFilesSuffice =
    (config : Config) (host : HostId) (walk : Walk) (view : View) (one other : Files_at)
    → AgreeAt one other (wanted_by config host walk.dirs)
    → effective config host walk view one ≡ effective config host walk view other

-- Along a walk of any name the files that are wanted are those of each directory, for exactly what is allowed there.
abbrev pub WantedAsAllowed : Type 0
WantedAsAllowed =
    (config : Config) (host : HostId) (world : World) (name : Path) → IsWorld world
    → wanted_by config host (walk world name).dirs
    ≡ flat_map (λ dir. wants dir (allowed config host dir)) (walk world name).dirs
