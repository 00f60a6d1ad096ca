-- The request that follows a redirect to an own server. Our own choice.
use Rattle.std.specs.Prelude.{ℕ, ◌==◌, List, [], ◌∷◌, ◌++◌, length, drop, Bool, true, ◌&&◌, ◌||◌, if◌then◌else◌}
use Rattle.std.specs.Prelude.{Option, Some, None, option_map, unwrap_or, codes, decimal, nat_eq}
use Rattle.std.specs.List.{before_first, starts_with}
use Rattle.std.specs.Option.{option_or}
use Rattle.hc_base.specs.Bytes.{colon, hash, question, slash}
use Rattle.hc_base.specs.Paths.{begins_with_slash, is_slash}
use Rattle.hc_forms.specs.Forms.{is_target}
use Rattle.hc_model.specs.declared.outcome.Outcome.{Outcome}
use Rattle.hc_model.specs.declared.outcome.Outcome.TheVariants.{Redirect}
use Rattle.hc_model.specs.declared.request.Request.{Request}
use Rattle.hc_target.specs.Urls.{begins_without_case}
use Rattle.hc_template.specs.Variables.{default_port, scheme_name}
use Rattle.hc_follow.specs.declared.next.Next.{Next}
use Rattle.hc_follow.specs.declared.next.Next.TheVariants.{Go, Halt}
use Rattle.hc_follow.specs.declared.next.Stop.TheVariants.{Away, BadTarget, Ended}
use Rattle.hc_follow.specs.declared.next.TheConstants.{SEE_OTHER}
use Rattle.hc_follow.specs.declared.origin.Origin.{Origin}

-- ---- the origin of a location

abbrev pub is_hash : ℕ → Bool
is_hash b = b == hash

-- An authority ends before these, and with the text.
abbrev pub ends_authority : List ℕ → Bool
ends_authority [] = true
ends_authority (b ∷ bs) = is_slash b || ((b == question) || is_hash b)

-- What stands behind the first of these texts, where an authority ends there.
abbrev pub behind_front : List ℕ → List ℕ → Option (List ℕ)
behind_front front text =
    if starts_with nat_eq text front && ends_authority (drop (length front) text) then Some (drop (length front) text)
    else None

-- What stands behind the port. Nothing stands for the scheme's default one.
abbrev pub behind_port : Origin → List ℕ → Option (List ℕ)
behind_port origin text =
    option_or (behind_front (colon ∷ decimal origin.port) text)
    (if origin.port == default_port origin.scheme then behind_front [] text else None)

abbrev pub front_of : Origin → List ℕ
front_of origin = scheme_name origin.scheme ++ codes "://" ++ origin.host

-- What a location has behind an origin: its scheme and its host without case, and its port.
abbrev pub behind : Origin → List ℕ → Option (List ℕ)
behind origin location =
    if begins_without_case (front_of origin) location
    then behind_port origin (drop (length (front_of origin)) location) else None

-- ---- the request

-- Up to a fragment, and with a slash before it where it has none.
abbrev pub slashed : List ℕ → List ℕ
slashed text = if begins_with_slash text then text else slash ∷ text

abbrev pub target_in : List ℕ → List ℕ
target_in rest = slashed (before_first is_hash rest)

-- 303 is followed by GET (Apache manual, mod_alias, Redirect: "seeother").
abbrev pub method_behind : ℕ → List ℕ → List ℕ
method_behind status method = if status == SEE_OTHER then codes "GET" else method

-- The request at this origin, for what stands behind it.
abbrev pub sent : Request → ℕ → Origin → List ℕ → Next
sent from status origin rest =
    if is_target (target_in rest) then Go (record from {
      method = method_behind status from.method;
      scheme = origin.scheme;
      port = origin.port;
      host = origin.host;
      target = target_in rest;
    })
    else Halt BadTarget

-- The first origin that the location begins with counts.
abbrev pub sent_to : Request → ℕ → List Origin → List ℕ → Next
sent_to from status [] location = Halt Away
sent_to from status (origin ∷ more) location =
    unwrap_or (option_map (sent from status origin) (behind origin location)) (sent_to from status more location)

abbrev pub next_request : List Origin → Request → Outcome → Next
next_request hosts from (Redirect status location) = sent_to from status hosts location
next_request hosts from other = Halt Ended
