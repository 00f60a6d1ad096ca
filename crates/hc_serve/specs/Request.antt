-- What a request receives: the server that answers is chosen, the target is read, and passes follow.
-- Apache manual: "Mapping URLs to Filesystem Locations"; core, LimitInternalRecursion. What is outside
-- is our own choice.
use Rattle.std.specs.Prelude.{◌≡◌, ℕ, zero, suc, List, [], ◌++◌, length, take, false, Option, None}
use Rattle.hc_vhost.specs.Choice.{chosen}
use Rattle.hc_vhost.specs.Servers.{server_at}
use Rattle.hc_model.specs.World.{World}
use Rattle.hc_model.specs.declared.config.Config.{Config}
use Rattle.hc_model.specs.declared.config.HostId.{HostId}
use Rattle.hc_model.specs.declared.event.Event.TheVariants as event
use Rattle.hc_model.specs.declared.outcome.LimitKind.TheVariants.{Redirects}
use Rattle.hc_model.specs.declared.outcome.Outcome.{Outcome}
use Rattle.hc_model.specs.declared.outcome.Outcome.TheVariants.{Limit, Outside, Status}
use Rattle.hc_model.specs.declared.outcome.Reason.TheVariants.{PathByte}
use Rattle.hc_model.specs.declared.read.Read.{Read}
use Rattle.hc_model.specs.declared.request.Request.{Request}
use Rattle.hc_target.specs.Targets.{read}
use Rattle.hc_target.specs.declared.target.TargetRead.{TargetRead}
use Rattle.hc_target.specs.declared.target.TargetRead.TheVariants as target
use Rattle.hc_base.specs.declared.place.Place.{Place}
use Rattle.hc_include.specs.Ending.{ending}
use Rattle.hc_model.specs.declared.authorization.ReqTree.{ReqTree}
use Rattle.hc_serve.specs.Needs.{needs_of}
use Rattle.hc_serve.specs.Passing.{followed_by, passed, with_tree}
use Rattle.hc_serve.specs.ServerRules.{pass_at}
use Rattle.hc_serve.specs.Site.{Site, most_passes, site_at}
use Rattle.hc_serve.specs.declared.answer.Answer.{Answer}
use Rattle.hc_serve.specs.declared.answer.WholeRun.{WholeRun}
use Rattle.hc_serve.specs.declared.answer.TheConstants.{LONGEST_TRAIL}
use Rattle.hc_serve.specs.declared.stage.Ended.{Ended}
use Rattle.hc_serve.specs.declared.stage.Opened.{Opened}
use Rattle.hc_serve.specs.declared.stage.Pass.{Pass}
use Rattle.hc_serve.specs.declared.stage.Restarted.{Restarted}
use Rattle.hc_serve.specs.declared.way.TheConstants.{BAD_REQUEST, NOT_FOUND}
use Rattle.hc_steps.specs.Laws.{AgreeOn}
use Rattle.hc_steps.specs.Order.{each_once}
use Rattle.hc_steps.specs.Run.{Run, Way, goes_on, is_over, run}
use Rattle.hc_steps.specs.Shown.{shown_by}
use Rattle.hc_steps.specs.Step.{Step, leaves, ends, told, ◌>>=◌}

-- ---- the way of a request

-- The server that answers: by the connection's address and port, and by the name of the Host header.
abbrev pub asked_of : Config → Request → HostId
asked_of config request = chosen config request.server request.port request.host

unfoldable pub host_told : Config → HostId → Step Outcome HostId
host_told config host = told (event.Host (server_at config host).place) host

unfoldable pub host_of : Config → Request → Step Outcome HostId
host_of config request = host_told config (asked_of config request)

-- The first pass, or what a target that gives none ends with.
unfoldable pub first_pass : TargetRead → Step Outcome Pass
first_pass target.Bad400 = ends (Status BAD_REQUEST)
first_pass target.Miss404 = ends (Status NOT_FOUND)
first_pass target.PathByte = ends (Outside PathByte)
first_pass (target.Path path query) = leaves (pass_at 0 path query [] false)

-- Before the passes.
unfoldable pub opened : Config → Request → Step Outcome Opened
opened config request = do
  host ← host_of config request
  pass ← first_pass (read request.target)
  leaves (record { host = host; pass = pass })

-- So many passes at most, one after another. The last one that the limit allows ends the request, so that none is left
-- over.
unfoldable pub passes : ℕ → Site → Restarted → Step Ended Restarted
passes zero site left = leaves left
passes (suc more) site left = passed site left.pass >>= passes more site

unfoldable pub passes_at : Site → Pass → Step Ended Restarted
passes_at site pass = passes (most_passes site.config site.host) site (followed_by None pass)

unfoldable pub passes_of : Config → Request → Opened → Step Ended Restarted
passes_of config request opened = passes_at (site_at config opened.host request) opened.pass

unfoldable pub way : Config → Request → Step Ended Restarted
way config request = ending (with_tree None) (opened config request) >>= passes_of config request

-- ---- the run

-- A pass that is left over would be one too many.
abbrev pub outcome_of : Way Ended Restarted → Outcome
outcome_of (is_over ended) = ended.outcome
outcome_of (goes_on left) = Limit Redirects

-- The tree that was in force in the last pass.
abbrev pub tree_of : Way Ended Restarted → Option ReqTree
tree_of (is_over ended) = ended.require
tree_of (goes_on left) = left.require

abbrev pub whole_run : World → Config → Request → Run Ended Restarted
whole_run world config request = run (way config request) (shown_by world)

-- What a request receives.
abbrev pub received : World → Config → Request → Outcome
received world config request = outcome_of (whole_run world config request).way

-- What an answer rests on: what the configuration rests on, and what was looked at.
abbrev pub reads_of : World → Config → Request → List Read
reads_of world config request = each_once (config.reads ++ (whole_run world config request).reads)

-- ---- the answer

-- The outcome, how many events there were, the first of them, and the reads.
pub record IsAnswer (world : World) (config : Config) (request : Request) (answer : Answer) : Type 0 where
  pub outcome : answer.outcome ≡ received world config request
  pub events : answer.events ≡ length (whole_run world config request).events
  pub trail : answer.trail ≡ take LONGEST_TRAIL (whole_run world config request).events
  pub reads : answer.reads ≡ reads_of world config request

-- The Require lines of the last pass.
abbrev pub needed : World → Config → Request → List Place
needed world config request = needs_of (tree_of (whole_run world config request).way)

-- The outcome, all events, the Require lines of the last pass, and the reads.
pub record IsWholeRun (world : World) (config : Config) (request : Request) (answer : WholeRun) : Type 0 where
  pub outcome : answer.outcome ≡ received world config request
  pub events : answer.events ≡ (whole_run world config request).events
  pub needs : answer.needs ≡ needed world config request
  pub reads : answer.reads ≡ reads_of world config request

-- ---- a law

-- Worlds that agree on what the answer of the first rests on give the same run.
abbrev pub AnswersAgree : Type 0
AnswersAgree =
    (config : Config) (request : Request) (one other : World)
    → AgreeOn (shown_by one) (shown_by other) (reads_of one config request)
    → whole_run one config request ≡ whole_run other config request
