-- Chains of requests, each of which follows what the one before receives. Our own choice.
use Rattle.std.specs.Prelude.{◌≡◌, ◌≤◌, ℕ, List, [], ◌∷◌, length}
use Rattle.hc_model.specs.World.{World}
use Rattle.hc_model.specs.declared.config.Config.{Config}
use Rattle.hc_model.specs.declared.request.Request.{Request}
use Rattle.hc_serve.specs.Request.{IsAnswer, received}
use Rattle.hc_follow.specs.Next.{next_request}
use Rattle.hc_follow.specs.declared.chain.Chain.{Chain}
use Rattle.hc_follow.specs.declared.chain.TheConstants.{MOST_STEPS}
use Rattle.hc_follow.specs.declared.next.Next.{Next}
use Rattle.hc_follow.specs.declared.next.Next.TheVariants.{Go, Halt}
use Rattle.hc_follow.specs.declared.next.Stop.{Stop}
use Rattle.hc_follow.specs.declared.next.Stop.TheVariants.{TooMany}
use Rattle.hc_follow.specs.declared.origin.Origin.{Origin}

module _ (world : World) (config : Config) (hosts : List Origin) where
  -- The request that follows what this one receives.
  abbrev pub Leads : Request → Request → Type 0
  Leads from to = next_request hosts from (received world config from) ≡ Go to

  -- The request to which these lead, the last of them first.
  abbrev pub AreSteps : Request → List Request → Request → Type 0
  AreSteps from [] to = to ≡ from
  AreSteps from (before ∷ earlier) to = AreSteps from earlier before × Leads before to

  -- It halts here; where another step would follow, since there are too many.
  abbrev pub Halts : ℕ → Next → Stop → Type 0
  Halts steps (Halt stop) said = said ≡ stop
  Halts steps (Go next) said = (said ≡ TooMany) × (steps ≡ MOST_STEPS)

  pub record IsChain (request : Request) (chain : Chain) : Type 0 where
    pub before : List Request
    pub at : Request
    pub steps : AreSteps request before at
    pub count : length before ≡ chain.steps
    pub few : chain.steps ≤ MOST_STEPS
    pub last : IsAnswer world config at chain.last
    pub halts : Halts chain.steps (next_request hosts at chain.last.outcome) chain.stop
