-- What the plans of a pass are made for, from what code is lent.
use Rattle.std.specs.Prelude.{◌≡◌, ℕ, Bool}
use Rattle.hc_model.specs.World.{World}
use Rattle.hc_model.specs.declared.section.Body.{Body}
use Rattle.hc_plan.specs.States.{AbsState}
use Rattle.hc_serve.specs.ServerRules.{maps_of}
use Rattle.hc_serve.specs.Site.{Site}
use Rattle.hc_steps.specs.Shown.{shown_by}
use Rattle.hc_steps.specs.Step.{Shown}
use Rattle.hc_vhost.specs.Servers.{IsHostOf}
use Rattle.hc_abs_authz.specs.Admitting.{clients_of}
use Rattle.hc_abs_pass.specs.Passing.{Ground, Settings}
use Rattle.hc_abs_restart.specs.Restarted.{is_among}
use Rattle.hc_abs_rw.specs.Frames.{common}
use Rattle.hc_abs_left.specs.declared.ground.Ground.{Ground as LentGround}
use Rattle.hc_abs_left.specs.declared.ground.Settings.{Settings as LentSettings}

abbrev pub world_in : LentGround → World
world_in ground = ground.around.now.world.now.files

abbrev pub shown_in : LentGround → Shown
shown_in ground = shown_by (world_in ground)

abbrev pub site_in : LentGround → Site
site_in ground = record { config = ground.config.now; host = ground.host; caller = ground.tests.now }

-- How deep the world is, and what merges a setting, is left open.
abbrev pub ground_in : ℕ → (Body → Bool) → LentGround → Ground
ground_in levels merges ground = record {
  site = site_in ground;
  last = ground.last;
  shown = shown_in ground;
  levels = levels;
  merges = merges;
  names = is_among ground.names.now;
}

-- The host is one of the configuration, the maps are those in force there, and the caller has nothing that differs from
-- request to request.
pub record Stands (ground : LentGround) : Type 0 where
  pub host : IsHostOf ground.config.now ground.host
  pub maps : (ground.around.now).maps.now ≡ maps_of ground.config.now ground.host
  pub caller : common ground.tests.now ≡ ground.tests.now

-- The clients of a set.
abbrev pub HasClients : LentGround → AbsState → Type 0
HasClients ground state = state.clients ≡ clients_of ground.net.now

-- What is in force, but for the sets of the walk's end.
pub record SettingsFit (lent : LentSettings) (settings : Settings) : Type 0 where
  pub force : settings.force ≡ lent.force
  pub aliased : settings.aliased ≡ lent.aliased
  pub kind : (settings.end).kind ≡ lent.kind
