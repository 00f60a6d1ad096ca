-- What a claim says of the run of a request. Our own choice.
use Rattle.std.specs.Prelude.{◌≡◌, ℕ, ◌==◌, ◌&&◌, not, List, Bool, true, false, Option, None, Some}
use Rattle.std.specs.List.{list_any}
use Rattle.std.specs.Str.{bytes_eq}
use Rattle.hc_base.specs.declared.place.Place.{Place}
use Rattle.hc_dfa.specs.Automata.{accepts}
use Rattle.hc_model.specs.World.{World}
use Rattle.hc_model.specs.declared.config.Config.{Config}
use Rattle.hc_model.specs.declared.event.Event.{Event}
use Rattle.hc_model.specs.declared.event.Event.TheVariants as event
use Rattle.hc_model.specs.declared.outcome.Outcome.{Outcome}
use Rattle.hc_model.specs.declared.outcome.Outcome.TheVariants as outcome
use Rattle.hc_model.specs.declared.outcome.Reason.{Reason}
use Rattle.hc_model.specs.declared.outcome.Reason.TheVariants.{LongText}
use Rattle.hc_model.specs.declared.request.Request.{Request}
use Rattle.hc_scope.specs.declared.claim.Claim.{Claim}
use Rattle.hc_scope.specs.declared.claim.Claim.TheVariants.{Guarded, Shadowed, Stops}
use Rattle.hc_serve.specs.Request.{IsWholeRun, needed, received, whole_run}
use Rattle.hc_serve.specs.declared.answer.WholeRun.{WholeRun}

abbrev pub same_place : Place → Place → Bool
same_place one other = (one.line == other.line) && bytes_eq one.file other.file

abbrev pub has_place : List Place → Place → Bool
has_place places sought = list_any (λ place. same_place place sought) places

-- The place is none of these.
abbrev pub lacks : List Place → Place → Bool
lacks places sought = not (has_place places sought)

-- The rule of this place matched.
abbrev pub is_match : Place → Event → Bool
is_match place (event.Rule spot matched) = matched && same_place spot.place place
is_match place other = false

-- A request whose text grew too long is of no scope; any other that is outside breaks every claim.
abbrev pub is_outside : Reason → Bool
is_outside LongText = false
is_outside other = true

abbrev pub is_limit : Outcome → Bool
is_limit (outcome.Limit kind) = true
is_limit other = false

-- A file or a directory of this set.
abbrev pub is_served : (List ℕ → Bool) → Outcome → Bool
is_served set (outcome.File path info) = set path
is_served set (outcome.Directory path) = set path
is_served set other = false

-- What a claim says of a run that is not outside: that it ends at no limit; that the rule matched nowhere; that it
-- ends with no file or directory of the set where the last pass lacked the Require line.
abbrev pub breaks_by : Claim → Outcome → List Event → List Place → Bool
breaks_by Stops own events needs = is_limit own
breaks_by (Shadowed place) own events needs = list_any (is_match place) events
breaks_by (Guarded target by) own events needs = is_served (accepts target) own && lacks needs by

abbrev pub breaks : Claim → Outcome → List Event → List Place → Bool
breaks claim (outcome.Outside reason) events needs = is_outside reason
breaks claim own events needs = breaks_by claim own events needs

-- The run of a request breaks a claim.
abbrev pub is_broken : World → Config → Claim → Request → Bool
is_broken world config claim request =
    breaks claim (received world config request) (whole_run world config request).events (needed world config request)

-- The run, where it breaks the claim.
abbrev pub Shows : World → Config → Claim → Request → Option WholeRun → Type 0
Shows world config claim request None = is_broken world config claim request ≡ false
Shows world config claim request (Some whole) =
    (is_broken world config claim request ≡ true) × IsWholeRun world config request whole
