-- How a pass ends, and what a request has come to at the cuts between its steps.
use Rattle.std.specs.Prelude.{◌≡◌, ℕ, List, [], Option, None, Some}
use Rattle.std.specs.List.{IsDistinct}
use Rattle.std.specs.Map.{keys_of}
use Rattle.std.specs.Str.{bytes_eq}
use Rattle.hc_alias.specs.Locations.{location}
use Rattle.hc_alias.specs.Tests.{Found, found_by}
use Rattle.hc_addr.specs.declared.addr.Addr.{Addr}
use Rattle.hc_base.specs.declared.place.Refusal.{Refusal}
use Rattle.hc_model.specs.declared.event.Decision.{Decision}
use Rattle.hc_model.specs.declared.mapping.Redirect.{Redirect}
use Rattle.hc_model.specs.declared.outcome.LimitKind.{LimitKind}
use Rattle.hc_model.specs.declared.outcome.Outcome.{Outcome}
use Rattle.hc_model.specs.declared.outcome.Outcome.TheVariants as outcome
use Rattle.hc_model.specs.declared.outcome.Reason.{Reason}
use Rattle.hc_model.specs.declared.request.Caller.{Caller}
use Rattle.hc_model.specs.declared.walk.Kind.{Kind}
use Rattle.hc_plan.specs.Hands.{cell_of}
use Rattle.hc_plan.specs.Running.{State}
use Rattle.hc_plan.specs.Slots.{Slot}
use Rattle.hc_plan.specs.States.{AbsState, this}
use Rattle.hc_plan.specs.Texts.{all_three}
use Rattle.hc_plan.specs.declared.storing.Tied.{Tied}
use Rattle.hc_rw_expand.specs.Variables.{Variables}
use Rattle.hc_rw_expand.specs.declared.state.RwState.{RwState}
use Rattle.hc_serve.specs.Passing.{outcome_at}
use Rattle.hc_serve.specs.ServerRules.{context_at, state_at}
use Rattle.hc_serve.specs.Site.{Site}
use Rattle.hc_serve.specs.declared.stage.Here.{Here}
use Rattle.hc_serve.specs.declared.stage.Pass.{Pass}
use Rattle.hc_steps.specs.Run.{Way, goes_on, is_over}
use Rattle.hc_abs_rw.specs.Known.{client_given}
use Rattle.hc_abs_rw.specs.Standing.{Meets}
use Rattle.hc_abs_pass.specs.declared.ends.Left.{Left as LeftIn}
use Rattle.hc_abs_pass.specs.declared.ends.Left.TheVariants as left

-- An answer of this status; outside; what stands at the slots `name` and `info`; sent away by a redirect; a `.htaccess`
-- that is refused; a limit that is reached; another pass.
pub data Left : Type 0 where
  status : ℕ → Left
  outside : Reason → Left
  found : Kind → Left
  sent : Redirect → Left
  refused : Refusal → Left
  limit : LimitKind → Left
  next_pass : Left

abbrev pub left_of : LeftIn → Left
left_of (left.Status number) = status number
left_of (left.Outside reason) = outside reason
left_of (left.Found kind) = found kind
left_of (left.Sent redirect) = sent redirect
left_of (left.Refused refusal) = refused refusal
left_of (left.Limit kind) = limit kind
left_of left.NextPass = next_pass

-- What is known at an end, where nothing is held. No text in hand is looked at.
pub record EndsAt (client : Option Addr) (tied : Tied) (state : AbsState) : Type 0 where
  pub cell : state.cell ≡ cell_of tied.cell
  pub ties : state.ties ≡ tied.ties
  pub given : state.given ≡ all_three (λ at. this [])
  pub printed : state.printed ≡ client_given client

-- ---- cuts

-- A pass as it begins: the URL path is rewritten.
abbrev pub MeetsPass : Site → Pass → State → Type 0
MeetsPass site pass state = Meets (context_at site pass) (state_at pass) state

-- What the pass has come to where another text stands in the slot `text`.
abbrev pub left_at : Pass → State → RwState
left_at pass state = record {
  text = state.slots Slot.Text;
  query = pass.query;
  info = state.slots Slot.Info;
  vars = pass.vars;
  end = pass.end;
  groups = None;
  cond_groups = None;
}

abbrev pub MeetsOn : Site → Pass → State → Type 0
MeetsOn site pass state = Meets (context_at site pass) (left_at pass state) state

-- No name stands twice.
abbrev pub AreOnce : Variables → Type 0
AreOnce vars = IsDistinct bytes_eq (keys_of vars)

-- Behind the rules of a directory.
pub record MeetsHere (site : Site) (here : Here) (left : RwState) (state : State) : Type 0 where
  pub meets : Meets (context_at site here.named.pass) left state
  pub name : state.slots Slot.Name ≡ here.walk.name
  pub once : AreOnce left.vars

-- ---- ends

-- Where a redirect sends a request whose slots have its path and query.
abbrev pub SentBy : Caller → State → Redirect → Outcome → Type 0
SentBy caller state redirect own = (found : Found)
    × (found_by redirect.from (state.slots Slot.Path) ≡ Some found)
    × (own ≡ outcome.Redirect redirect.status (location caller redirect found (state.slots Slot.Query)))

abbrev pub Ends : Site → State → Left → Way Outcome Pass → Type 0
Ends site state (status number) way = way ≡ is_over (outcome.Status number)
Ends site state (outside reason) way = way ≡ is_over (outcome.Outside reason)
Ends site state (found kind) way = way ≡ is_over (outcome_at kind (state.slots Slot.Name) (state.slots Slot.Info))
Ends site state (sent redirect) way = (own : Outcome) × (way ≡ is_over own) × SentBy site.caller state redirect own
Ends site state (refused refusal) way = way ≡ is_over (outcome.HtRefused refusal)
Ends site state (limit kind) way = way ≡ is_over (outcome.Limit kind)
Ends site state next_pass way =
    (pass : Pass) × (way ≡ goes_on pass) × MeetsPass site pass state × AreOnce pass.vars

-- The end is the way's, and nothing is decided on the way.
abbrev pub EndsLike : Site → State → Left → Way Outcome Pass → List Decision → Type 0
EndsLike site state left way decisions = (decisions ≡ []) × Ends site state left way
