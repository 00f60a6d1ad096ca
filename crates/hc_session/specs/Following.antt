-- What a `follow` is answered: the requests of a chain are asked one after another. Our own choice.
use Rattle.std.specs.Prelude.{◌≡◌, List, [], ◌∷◌, map, Result, Ok, Err}
use Rattle.hc_base.specs.declared.place.Refusal.{Refusal}
use Rattle.hc_follow.specs.Chains.{IsChain}
use Rattle.hc_follow.specs.declared.chain.Chain.{Chain}
use Rattle.hc_follow.specs.declared.next.Stop.{Stop}
use Rattle.hc_follow.specs.declared.next.Stop.TheVariants as stop
use Rattle.hc_follow.specs.declared.origin.Origin.{Origin}
use Rattle.hc_json.specs.Hosts.{HostForm}
use Rattle.hc_json.specs.Reply as reply
use Rattle.hc_json.specs.Reply.{Reply}
use Rattle.hc_json.specs.declared.followed.Stop.{Stop as Told}
use Rattle.hc_json.specs.declared.followed.Stop.TheVariants as told
use Rattle.hc_model.specs.declared.config.Config.{Config}
use Rattle.hc_model.specs.declared.request.Request.{Request}
use Rattle.hc_session.specs.Asking.{answer_of, asked}
use Rattle.hc_session.specs.State.{IsTurn, State, present, refusing}

abbrev pub origin_of : HostForm → Origin
origin_of host = record { scheme = host.scheme; host = host.host; port = host.port }

abbrev pub stop_told : Stop → Told
stop_told stop.Ended = told.Ended
stop_told stop.Away = told.Away
stop_told stop.BadTarget = told.BadTarget
stop_told stop.TooMany = told.TooMany

-- What the last request receives, after how many redirects, and why none follows.
abbrev pub chain_reply : Chain → Reply
chain_reply chain = reply.followed (chain.last).outcome chain.steps (stop_told chain.stop)

-- What these requests leave, the last of them first: each is asked behind those before it, and so served from what is
-- kept or evaluated, and counted.
abbrev pub asked_all : Config → State → List Request → State
asked_all config state [] = state
asked_all config state (request ∷ earlier) =
    asked (asked_all config state earlier) request (answer_of (state.world).files config request)

-- The requests of a chain were asked.
pub record IsFollowed (old : State) (config : Config) (hosts : List Origin) (request : Request) (chain : Chain)
    (new : State) : Type 0 where
  pub is : IsChain (old.world).files config hosts request chain
  pub leaves : new ≡ asked_all config old (is.at ∷ is.before)

abbrev pub FollowUnder : State → List Origin → Request → Result Config Refusal → Reply → State → Type 0
FollowUnder old hosts request (Err refusal) said new = IsTurn (refusing old refusal) said new
FollowUnder old hosts request (Ok config) said new =
    (chain : Chain) × IsFollowed old config hosts request chain new × (said ≡ chain_reply chain)

abbrev pub FollowTurn : State → Request → List HostForm → Reply → State → Type 0
FollowTurn old request hosts said new = FollowUnder old (map origin_of hosts) request (present old) said new
