-- What the two calls that answer a request have in common.
use Rattle.std.specs.Prelude.{◌≡◌, ℕ, List, ◌++◌, Option}
use Rattle.hc_model.specs.World.{World}
use Rattle.hc_model.specs.declared.config.Config.{Config}
use Rattle.hc_model.specs.declared.read.Read.{Read}
use Rattle.hc_model.specs.declared.request.Request.{Request}
use Rattle.hc_serve.specs.Request.{received, tree_of, whole_run}
use Rattle.hc_serve.specs.declared.answer.Served.{Served}
use Rattle.hc_steps.specs.Laws.{Keeps, empty_log}
use Rattle.hc_steps.specs.Ran.{Logged, with_reads}

-- A log that begins with what a configuration rests on.
abbrev pub log_of : Option ℕ → List Read → Logged
log_of cap reads = with_reads (empty_log cap) reads

-- At most so many events are kept.
pub record IsServed (cap : Option ℕ) (world : World) (config : Config) (request : Request) (served : Served) : Type
    0 where
  pub outcome : served.outcome ≡ received world config request
  pub require : served.require ≡ tree_of (whole_run world config request).way
  pub keeps : Keeps cap served.log (whole_run world config request).events
      (config.reads ++ (whole_run world config request).reads)
