-- What an answer says of the chains of all requests of a scope.
use Rattle.std.specs.Prelude.{◌≡◌, ℕ, true, false}
use Rattle.hc_absolute.specs.Absolute.{AreAbsolute}
use Rattle.hc_follow.specs.Chains.{IsChain}
use Rattle.hc_members.specs.Requests.{is_of_scope}
use Rattle.hc_model.specs.declared.request.Request.{Request}
use Rattle.hc_scope.specs.declared.claim.Scope.{Scope}
use Rattle.hc_steps.specs.Shown.{shown_by}
use Rattle.hc_abs_pass.specs.Walks.{IsListed}
use Rattle.hc_ends.specs.Asking.{HaveNames, Site}
use Rattle.hc_ends.specs.Breaking.{is_broken}
use Rattle.hc_ends.specs.Deciding.{IsDecided}
use Rattle.hc_ends.specs.declared.decided.DecidedEnds.{DecidedEnds}
use Rattle.hc_ends.specs.declared.decided.DecidedEnds.TheVariants.{Proved, Refuted}

-- Proved: the chain of no request of the scope breaks the claim, whatever its headers. Refuted: this one's does, by
-- this chain.
abbrev pub Holds : Site → Scope → DecidedEnds → Type 0
Holds site scope Proved = (request : Request) → is_of_scope scope request ≡ true → is_broken site request ≡ false
Holds site scope (Refuted request chain) = (is_of_scope scope request ≡ true) × (is_broken site request ≡ true)
    × IsChain site.world site.config site.hosts request chain
Holds site scope other = Unit {0}

-- So it is under each configuration whose file paths begin with a slash, for own servers with such names.
abbrev pub AnswersHold : Type 0
AnswersHold = (site : Site) (scope : Scope) (limit levels spent : ℕ) (decided : DecidedEnds) → AreAbsolute site.config
    → HaveNames site.hosts → IsListed levels (shown_by site.world)
    → IsDecided site scope limit levels spent decided → Holds site scope decided
