-- The file paths that a configuration names begin with a slash.
-- Apache manual: core, DocumentRoot; mod_alias, Alias and AliasMatch. That no path is relative is our own choice.
use Rattle.std.specs.Prelude.{◌≡◌, ℕ, List, true, Some, Ok}
use Rattle.std.specs.List.{AllByRecursion}
use Rattle.hc_alias.specs.Filling.{filling_with}
use Rattle.hc_alias.specs.Mapping.{maps_of, root_of}
use Rattle.hc_base.specs.Paths.{begins_with_slash}
use Rattle.hc_config.specs.Configuration.{built}
use Rattle.hc_flat.specs.declared.flat.Flat.{Flat}
use Rattle.hc_model.specs.declared.config.Config.{Config}
use Rattle.hc_model.specs.declared.config.HostId.{HostId}
use Rattle.hc_model.specs.declared.mapping.Alias.{Alias}
use Rattle.hc_template.specs.Filled.{filled}
use Rattle.hc_vhost.specs.Servers.{servers_of}

-- What an alias names begins with a slash, whatever its groups hold.
abbrev pub IsAbsolute : Alias → Type 0
IsAbsolute alias = (groups : ℕ → List ℕ) → begins_with_slash (filled (filling_with groups) alias.to) ≡ true

-- At each server, the document root and the targets of aliases begin with a slash.
pub record AreAbsolute (config : Config) : Type 0 where
  pub rooted : (host : HostId) (own : List ℕ) → root_of (servers_of config host) ≡ Some own
      → begins_with_slash own ≡ true
  pub aliased : (host : HostId) → AllByRecursion IsAbsolute (maps_of (servers_of config host))

-- So it is in each configuration that is built.
abbrev pub BuiltAreAbsolute : Type 0
BuiltAreAbsolute = (flat : Flat) (config : Config) → built flat ≡ Ok config → AreAbsolute config
