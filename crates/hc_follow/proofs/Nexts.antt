-- A request that follows another has a target.
use Rattle.std.proofs.Common.{◌≡◌, ℕ, List, [], ◌∷◌, Bool, true, false, Option, Some, None, refl, sym, subst}
use Rattle.std.specs.List.{before_first}
use Rattle.std.specs.Prelude.{if◌then◌else◌, option_map, unwrap_or}
use Rattle.hc_base.specs.Bytes.{slash}
use Rattle.hc_base.specs.Paths.{begins_with_slash}
use Rattle.hc_forms.specs.Forms.{is_target}
use Rattle.hc_model.specs.declared.outcome.Outcome.{Outcome}
use Rattle.hc_model.specs.declared.outcome.Outcome.TheVariants as outcome
use Rattle.hc_model.specs.declared.request.Request.{Request}
use Rattle.hc_follow.specs.Next.{behind, is_hash, next_request, sent, sent_to, slashed, target_in}
use Rattle.hc_follow.specs.declared.next.Next.{Next}
use Rattle.hc_follow.specs.declared.next.Next.TheVariants.{Go, Halt}
use Rattle.hc_follow.specs.declared.origin.Origin.{Origin}

-- What goes on has a target that begins with a slash.
abbrev HasTarget : Next → Type 0
HasTarget (Go next) = begins_with_slash next.target ≡ true
HasTarget (Halt stop) = Unit {0}

slashed_begins : (text : List ℕ) → begins_with_slash (slashed text) ≡ true
slashed_begins text = by (begins_with_slash text) refl
  where
    by : (v : Bool) → begins_with_slash text ≡ v → begins_with_slash (if v then text else slash ∷ text) ≡ true
    by true is = is
    by false is = refl

sent_begins : (from : Request) (status : ℕ) (origin : Origin) (rest : List ℕ)
    → HasTarget (sent from status origin rest)
sent_begins from status origin rest = elim (is_target (target_in rest))
    as (λ v. HasTarget (if v then Go (record from {
      method = Rattle.hc_follow.specs.Next.method_behind status from.method;
      scheme = origin.scheme;
      port = origin.port;
      host = origin.host;
      target = target_in rest;
    }) else Halt Rattle.hc_follow.specs.declared.next.Stop.TheVariants.BadTarget))
    [ true ↦ slashed_begins (before_first is_hash rest) | false ↦ tt ]

or_more : (from : Request) (status : ℕ) (origin : Origin) (found : Option (List ℕ)) (other : Next) → HasTarget other
    → HasTarget (unwrap_or (option_map (sent from status origin) found) other)
or_more from status origin (Some rest) other more = sent_begins from status origin rest
or_more from status origin None other more = more

to_begins : (from : Request) (status : ℕ) (hosts : List Origin) (location : List ℕ)
    → HasTarget (sent_to from status hosts location)
to_begins from status [] location = tt
to_begins from status (origin ∷ more) location =
    or_more from status origin (behind origin location) (sent_to from status more location)
    (to_begins from status more location)

next_begins : (hosts : List Origin) (from : Request) (said : Outcome) → HasTarget (next_request hosts from said)
next_begins hosts from (outcome.Redirect status location) = to_begins from status hosts location
next_begins hosts from (outcome.File path info) = tt
next_begins hosts from (outcome.Directory path) = tt
next_begins hosts from outcome.NotFound = tt
next_begins hosts from (outcome.Status number) = tt
next_begins hosts from (outcome.Limit kind) = tt
next_begins hosts from (outcome.HtRefused refusal) = tt
next_begins hosts from (outcome.Outside reason) = tt

pub begins : (hosts : List Origin) (from next : Request) (said : Outcome) → Go next ≡ next_request hosts from said
    → begins_with_slash next.target ≡ true
begins hosts from next said is = subst HasTarget (sym is) (next_begins hosts from said)
