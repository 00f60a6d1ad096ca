-- What a chain of redirects says of the claim that it ends. Our own choice.
use Rattle.std.specs.Prelude.{ℕ, zero, suc, List, length, Bool, true, false, not, nat_lt}
use Rattle.hc_broken.specs.Breaking.{is_outside}
use Rattle.hc_follow.specs.Next.{next_request}
use Rattle.hc_follow.specs.declared.chain.Chain.{Chain}
use Rattle.hc_follow.specs.declared.chain.TheConstants.{MOST_STEPS}
use Rattle.hc_follow.specs.declared.next.Next.{Next}
use Rattle.hc_follow.specs.declared.next.Next.TheVariants.{Go, Halt}
use Rattle.hc_follow.specs.declared.next.Stop.{Stop}
use Rattle.hc_follow.specs.declared.next.Stop.TheVariants.{Away, BadTarget, Ended, TooMany}
use Rattle.hc_model.specs.declared.outcome.Outcome.{Outcome}
use Rattle.hc_model.specs.declared.outcome.Outcome.TheVariants as outcome
use Rattle.hc_model.specs.declared.request.Request.{Request}
use Rattle.hc_serve.specs.Request.{received}
use Rattle.hc_sent.specs.declared.parts.TheConstants.{LONGEST_TARGET}
use Rattle.hc_ends.specs.Asking.{Site}

-- A location of more bytes than a target may have.
abbrev pub is_long : Outcome → Bool
is_long (outcome.Redirect status location) = nat_lt LONGEST_TARGET (length location)
is_long other = false

-- Outside, but for a text that grew too long.
abbrev pub is_out : Outcome → Bool
is_out (outcome.Outside reason) = is_outside reason
is_out other = false

-- A chain that ends breaks the claim where it ends outside. One that is sent away doesn't. One that goes on does,
-- and so does one that is sent to what is no target, unless its location is long.
abbrev pub breaks_by : Stop → Outcome → Bool
breaks_by Ended last = is_out last
breaks_by Away last = false
breaks_by BadTarget last = not (is_long last)
breaks_by TooMany last = true

abbrev pub breaks : Chain → Bool
breaks chain = breaks_by chain.stop chain.last.outcome

-- By what follows the last outcome.
abbrev pub broken_then : (Request → Bool) → Outcome → Next → Bool
broken_then further last (Halt stop) = breaks_by stop last
broken_then further last (Go next) = further next

module _ (site : Site) where
  abbrev pub broken_by : (Request → Bool) → Request → Bool
  broken_by further request =
      let last = received site.world site.config request in broken_then further last (next_request site.hosts request
      last)

  -- The chain of a request breaks the claim, where so many redirects may be followed.
  unfoldable pub broken_in : ℕ → Request → Bool
  broken_in zero request = broken_by (λ next. true) request
  broken_in (suc left) request = broken_by (broken_in left) request

  abbrev pub is_broken : Request → Bool
  is_broken = broken_in MOST_STEPS
