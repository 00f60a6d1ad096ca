-- Sections of the servers, and the candidates that they become.
-- Apache manual, "Configuration Sections"; core, Directory.
use Rattle.std.specs.Prelude.{ℕ, List, [], ◌∷◌, Bool, false, map, filter, is_some, Option, Some, None}
use Rattle.std.specs.List.{flat_map}
use Rattle.hc_model.specs.declared.config.Config.{Config}
use Rattle.hc_model.specs.declared.config.HostId.{HostId}
use Rattle.hc_model.specs.declared.config.HostId.TheVariants.{Main, Nth}
use Rattle.hc_model.specs.declared.config.Server.{Server}
use Rattle.hc_model.specs.declared.section.Body.{Body}
use Rattle.hc_model.specs.declared.section.Reach.{Reach}
use Rattle.hc_model.specs.declared.section.Reach.TheVariants.{Dir, DirSearch, Files, Location, LocationGlob}
use Rattle.hc_model.specs.declared.section.Reach.TheVariants.{LocationSearch, Otherwise, When}
use Rattle.hc_model.specs.declared.section.Section.{Section, out-Section}
use Rattle.hc_model.specs.declared.spot.Spot.{Spot}
use Rattle.hc_ways.specs.Kept.{first_match}
use Rattle.hc_vhost.specs.Servers.{server_at}

abbrev pub Path : Type 0
Path = List ℕ

-- ---- the sections of the servers

-- The main server's come before the host's.
abbrev pub servers_merged : Config → HostId → List Server
servers_merged config Main = config.main ∷ []
servers_merged config (Nth place) = config.main ∷ server_at config (Nth place) ∷ []

abbrev pub sections_of : Config → HostId → List (List Section)
sections_of config host = map (λ server. server.sections) (servers_merged config host)

-- ---- candidates

-- A section with the directory at which it applies, in the first group, or with where it applies; and
-- the place, in the list, of the section around it.
pub record Candidate : Type 0 where
  pub spot : Spot
  pub dir : Option Path
  pub reach : Option Reach
  pub parent : Option ℕ
  pub body : Body

abbrev pub spot_of : Section → Spot
spot_of section = record { place = (out-Section section).place; span = (out-Section section).span }

abbrev pub at_directory : Path → Section → Candidate
at_directory dir section = record {
  spot = spot_of section;
  dir = Some dir;
  reach = None;
  parent = None;
  body = (out-Section section).body;
}

abbrev pub untested : Option ℕ → Section → Candidate
untested parent section = record {
  spot = spot_of section;
  dir = None;
  reach = Some (out-Section section).reach;
  parent = parent;
  body = (out-Section section).body;
}

-- ---- the sections of a directory

abbrev pub is_glob_of : Path → Reach → Bool
is_glob_of dir (Dir pattern) = is_some (first_match dir pattern)
is_glob_of dir (DirSearch pattern) = false
is_glob_of dir (Files pattern) = false
is_glob_of dir (Location path) = false
is_glob_of dir (LocationGlob pattern) = false
is_glob_of dir (LocationSearch pattern) = false
is_glob_of dir (When test) = false
is_glob_of dir (Otherwise test) = false

-- The sections whose path is this directory's.
abbrev pub is_of : Path → Section → Bool
is_of dir section = is_glob_of dir (out-Section section).reach

abbrev pub sections_at : List (List Section) → Path → List Section
sections_at lists dir = flat_map (filter (is_of dir)) lists
