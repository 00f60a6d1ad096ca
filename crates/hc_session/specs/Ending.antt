-- What a `decide` of the claim that chains of redirects end is answered. Our own choice.
use Rattle.std.specs.Prelude.{◌≡◌, ◌⊎◌, ◌+◌, ℕ, List, Option, Some, None, Result, Ok, Err, map}
use Rattle.hc_abs_pass.specs.Walks.{IsListed}
use Rattle.hc_base.specs.declared.codes.TheConstants.{SET_SYNTAX}
use Rattle.hc_base.specs.declared.place.Refusal.{Refusal}
use Rattle.hc_ends.specs.Asking.{Site}
use Rattle.hc_ends.specs.Deciding.{IsDecided, MayRun}
use Rattle.hc_ends.specs.Holding.{Holds}
use Rattle.hc_ends.specs.declared.decided.DecidedEnds.{DecidedEnds}
use Rattle.hc_ends.specs.declared.decided.DecidedEnds.TheVariants as decided
use Rattle.hc_follow.specs.declared.origin.Origin.{Origin}
use Rattle.hc_json.specs.Claims.{ScopeForm, stops}
use Rattle.hc_json.specs.Command.{bad_line}
use Rattle.hc_json.specs.Hosts.{HostForm}
use Rattle.hc_json.specs.Reply as reply
use Rattle.hc_json.specs.Reply.{Reply}
use Rattle.hc_model.specs.World.{World}
use Rattle.hc_model.specs.declared.config.Config.{Config}
use Rattle.hc_scope.specs.declared.claim.Scope.{Scope}
use Rattle.hc_stated.specs.Stated.{IsScope, Sets, bad_pattern, field_name, sets_of}
use Rattle.hc_stated.specs.declared.field.Field.{Field}
use Rattle.hc_stated.specs.declared.stated.BadPattern.{BadPattern}
use Rattle.hc_steps.specs.Shown.{shown_by}
use Rattle.hc_session.specs.Deciding.{bad_pattern_line, refuses}
use Rattle.hc_session.specs.Following.{origin_of}
use Rattle.hc_session.specs.State.{State, present}

-- The claim that chains end which begin with a request of a scope, over files; and how many branches they may have.
pub record Chained : Type 0 where
  pub hosts : List Origin
  pub scope : ScopeForm
  pub world : World
  pub limit : ℕ

abbrev pub chained : State → List HostForm → ScopeForm → Chained
chained state hosts scope =
    record { hosts = map origin_of hosts; scope = scope; world = state.world.files; limit = state.limit }

abbrev pub ends_reply : DecidedEnds → Reply
ends_reply decided.Proved = reply.proved
ends_reply (decided.Refuted request chain) = reply.refuted (chain.last).outcome request
ends_reply (decided.Undecided branch) = reply.undecided branch
ends_reply (decided.TooMany count) = reply.too_many count

-- The answer is the defined one, and what it says of the chains of all requests of the scope holds.
pub record IsEnded (limit : ℕ) (site : Site) (scope : Scope) (said : Reply) : Type 0 where
  pub answer : DecidedEnds
  pub spent : ℕ
  pub is : (levels : ℕ) → IsListed levels (shown_by site.world) → IsDecided site scope limit levels spent answer
  pub holds : Holds site scope answer
  pub says : said ≡ ends_reply answer

-- No file names are spoken of.
abbrev pub sets_within : ScopeForm → Result Sets Field
sets_within scope = sets_of stops scope

module _ (chained : Chained) where
  abbrev pub site_under : Config → Site
  site_under config = record { world = chained.world; config = config; hosts = chained.hosts }

  -- By the first pattern in the sets that isn't read.
  abbrev pub SaysOfEnds : Config → Sets → Option BadPattern → Reply → Type 0
  SaysOfEnds config sets (Some bad) said = refuses (bad_pattern_line bad) said
  SaysOfEnds config sets None said =
      (scope : Scope) × IsScope chained.scope sets scope × IsEnded chained.limit (site_under config) scope said

  -- By the configuration.
  abbrev pub EndsUnder : Sets → Result Config Refusal → Reply → Type 0
  EndsUnder sets (Err refusal) said = refuses refusal said
  EndsUnder sets (Ok config) said = SaysOfEnds config sets (bad_pattern sets) said

  -- By the shapes of the sets.
  abbrev pub EndsFor : Result Config Refusal → Result Sets Field → Reply → Type 0
  EndsFor built (Err field) said = refuses (bad_line SET_SYNTAX (field_name field)) said
  EndsFor built (Ok sets) said = EndsUnder sets built said

  -- Candidates of bad ends were followed, by so many requests.
  pub record AreFollowed (built : Result Config Refusal) (count : ℕ) : Type 0 where
    pub sets : Sets
    pub are_sets : sets_within chained.scope ≡ Ok sets
    pub config : Config
    pub is_built : built ≡ Ok config
    pub scope : Scope
    pub is : IsScope chained.scope sets scope
    pub may : MayRun (site_under config) scope count

  abbrev pub Follows : Result Config Refusal → ℕ → Type 0
  Follows built count = (count ≡ 0) ⊎ AreFollowed built count

  -- The counter of runs has risen by so many at most.
  abbrev pub CountsFollowed : Result Config Refusal → ℕ → ℕ → Type 0
  CountsFollowed built before after = (spent : ℕ) × (after ≡ before + spent) × Follows built spent

-- ---- a command

-- It leaves all as it was.
abbrev pub EndsTurn : State → List HostForm → ScopeForm → Reply → State → Type 0
EndsTurn state hosts scope said new =
    EndsFor (chained state hosts scope) (present state) (sets_within scope) said × (new ≡ state)

-- So many requests may be evaluated for it.
abbrev pub MayFollow : State → List HostForm → ScopeForm → ℕ → Type 0
MayFollow state hosts scope count = Follows (chained state hosts scope) (present state) count
