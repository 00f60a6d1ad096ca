-- No answer has a float.
use Rattle.std.proofs.Common.{◌≡◌, ℕ, List, [], ◌∷◌, map, false, refl, Ordering, Less, Equal, Greater}
use Rattle.std.proofs.lemmas.Bool.{or_parts}
use Rattle.std.specs.Cmp.Lexicographic.{slice_cmp}
use Rattle.std.specs.Ordering.{match_ordering, nat_cmp}
use Rattle.serde_json.specs.Data.{Data, Members, member, no_members, put}
use Rattle.serde_json.specs.View.{items_of}
use Rattle.serde_json.specs.Written.{has_float, items_have_float, members_have_float}
use Rattle.hc_model.specs.declared.event.Decision.{Decision}
use Rattle.hc_model.specs.declared.event.Decision.TheVariants as decision
use Rattle.hc_model.specs.declared.event.Event.{Event}
use Rattle.hc_model.specs.declared.event.Event.TheVariants as event
use Rattle.hc_model.specs.declared.outcome.Outcome.{Outcome}
use Rattle.hc_model.specs.declared.outcome.Outcome.TheVariants.{NotFound}
use Rattle.hc_model.specs.declared.read.Read.{Read}
use Rattle.hc_model.specs.declared.read.Read.TheVariants.{KindOf}
use Rattle.hc_model.specs.declared.request.Header.{Header}
use Rattle.hc_model.specs.declared.request.Request.{Request}
use Rattle.hc_json.specs.Claimed.{decision_data, with_headers}
use Rattle.hc_json.specs.Reply.{followed, outcome_data, refuted, rejected, reply_data, trailed_data, undecided}
use Rattle.hc_json.specs.Shown.{shown}
use Rattle.hc_json.specs.declared.followed.Stop.{Stop}
use Rattle.hc_json.specs.declared.rejected.Condition.{Condition}
use Rattle.hc_json.specs.Trail.{Trailed, event_data, read_data, sourced_data, text_data}

items_without : {A : Type 0} (f : A → Data) → ((x : A) → has_float (f x) ≡ false) → (xs : List A)
    → items_have_float (items_of (map f xs)) ≡ false
items_without f without [] = refl
items_without f without (x ∷ xs) = rw (without x) (items_without f without xs)

outcome_without : (outcome : Outcome) → has_float (outcome_data outcome) ≡ false
outcome_without NotFound = refl
outcome_without outcome = refl

read_without : (read : Read) → has_float (read_data read) ≡ false
read_without (KindOf path) = refl
read_without read = refl

event_without : (told : Event) (source : List ℕ) → has_float (event_data told source) ≡ false
event_without (event.Round count) source = refl
event_without told source = refl

pub trailed_without : (answer : Trailed) → has_float (trailed_data answer) ≡ false
trailed_without answer =
    rw (
      outcome_without answer.outcome,
      items_without read_data read_without answer.reads,
      items_without sourced_data (λ told. event_without told.event told.source) answer.trail,
    ) refl

pub followed_without : (outcome : Outcome) (steps : ℕ) (stop : Stop)
    → has_float (reply_data (followed outcome steps stop)) ≡ false
followed_without outcome steps stop = rw (outcome_without outcome) refl

decision_without : (decision : Decision) → has_float (decision_data decision) ≡ false
decision_without (decision.Cond place held) = refl
decision_without (decision.Rule place matched) = refl

pub undecided_without : (branch : List Decision) → has_float (reply_data (undecided branch)) ≡ false
undecided_without branch = rw (items_without decision_data decision_without branch) refl

pub rejected_without : (branch : List Decision) (cell : ℕ) (condition : Condition) (witness : List ℕ)
    → has_float (reply_data (rejected branch cell condition witness)) ≡ false
rejected_without branch cell condition witness = rw (items_without decision_data decision_without branch) refl

put_without : (key : List ℕ) (d : Data) (ms : Members) → has_float d ≡ false → members_have_float ms ≡ false
    → members_have_float (put key d ms) ≡ false
put_without key d no_members one rest = rw one refl
put_without key d (member other own ms) one rest =
    let parts = or_parts (has_float own) (members_have_float ms) rest in
    by parts (put_without key d ms one parts.1) (slice_cmp nat_cmp key other) where
      by : (has_float own ≡ false) × (members_have_float ms ≡ false) → members_have_float (put key d ms) ≡ false
          → (order : Ordering) → members_have_float (match_ordering order (member key d (member other own ms))
          (member other d ms) (member other own (put key d ms))) ≡ false
      by parts later Less = rw one rest
      by parts later Equal = rw one parts.1
      by parts later Greater = rw parts.0 later

headers_without : (headers : List Header) (ms : Members) → members_have_float ms ≡ false
    → members_have_float (with_headers ms headers) ≡ false
headers_without [] ms none = none
headers_without (header ∷ rest) ms none =
    headers_without rest (put (shown header.name) (text_data header.value) ms)
    (put_without (shown header.name) (text_data header.value) ms refl none)

pub refuted_without : (outcome : Outcome) (request : Request)
    → has_float (reply_data (refuted outcome request)) ≡ false
refuted_without outcome request =
    rw (outcome_without outcome, headers_without request.headers no_members refl) refl
