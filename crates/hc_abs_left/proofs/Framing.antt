-- What rules are tried in, from what is lent, is the frame that the plans of a pass have.
use Rattle.hc_abs_left.proofs.Common.{◌≡◌, ℕ, List, Bool, Option, option_map}
use Rattle.std.proofs.Common.{Bor}
use Rattle.hc_alias.specs.Mapping.{root_of}
use Rattle.hc_map.specs.Maps.{look_up}
use Rattle.hc_model.specs.declared.section.Body.{Body}
use Rattle.hc_rw_expand.specs.Contexts.{engine_of}
use Rattle.hc_rw_expand.specs.declared.context.Engine.{Engine as LentEngine}
use Rattle.hc_vhost.specs.Servers.{servers_of}
use Rattle.hc_abs_pass.specs.Passing.{frame_by}
use Rattle.hc_abs_rw.specs.Around.{kind_in, texts_in}
use Rattle.hc_abs_rw.specs.Frames.{common}
use Rattle.hc_abs_rw.specs.Known.{frame_at}
use Rattle.hc_abs_rw.specs.declared.around.Around.{Around}
use Rattle.hc_abs_rw.specs.declared.frame.Frame.{Frame as LentFrame}
use Rattle.hc_abs_left.specs.Grounds.{Stands, ground_in}
use Rattle.hc_abs_left.specs.declared.ground.Ground.{Ground}

module _ (ground : Ground) (root : Option (Bor (List ℕ))) (engine : Option LentEngine) where
  -- The frame that code makes, with a document root and for a directory.
  abbrev pub lent_frame : LentFrame Around
  lent_frame = record {
    tests = ground.tests;
    root = root;
    engine = engine;
    client = ground.client;
    around = ground.around;
    room = ground.room;
  }

  -- It is the frame of the plans: the maps are those in force at the server, and the caller has what all have in common.
  pub frame_is : (levels : ℕ) (merges : Body → Bool) → Stands ground
      → option_map (λ root. root.now) root ≡ root_of (servers_of ground.config.now ground.host)
      → frame_at (λ around. kind_in around.world.now.files)
      (λ around. look_up around.maps.now (texts_in around.world.now.files)) lent_frame
      ≡ frame_by (ground_in levels merges ground) (option_map engine_of engine)
  frame_is levels merges stands same = λ i. record {
    caller = common ground.tests.now;
    root = same i;
    engine = option_map engine_of engine;
    kind = kind_in ground.around.now.world.now.files;
    values = look_up (stands.maps i) (texts_in ground.around.now.world.now.files);
  }
