-- Where a plan's run and a run of steps are in one place.
use Rattle.std.specs.Prelude.{true, false, ◌≡◌, ℕ, List, [], ◌∷◌, ◌++◌, Bool, ◌||◌}
use Rattle.std.specs.Prelude.{nat_lt}
use Rattle.std.specs.Prelude.{if◌then◌else◌, codes}
use Rattle.std.specs.List.{flat_map}
use Rattle.hc_addr.specs.declared.addr.Addr.{Addr}
use Rattle.hc_model.specs.declared.event.Decision.{Decision}
use Rattle.hc_model.specs.declared.event.Decision.TheVariants as decision
use Rattle.hc_model.specs.declared.event.Event.{Event}
use Rattle.hc_model.specs.declared.event.Event.TheVariants as event
use Rattle.hc_model.specs.declared.outcome.Outcome.{Outcome}
use Rattle.hc_model.specs.declared.outcome.Outcome.TheVariants as outcome
use Rattle.hc_model.specs.declared.outcome.Reason.TheVariants.{LongText}
use Rattle.hc_plan.specs.Running.{Run as PlanRun, State, ended, left_out, too_long}
use Rattle.hc_plan.specs.Slots.{Slot}
use Rattle.hc_plan.specs.Texts.{all_three}
use Rattle.hc_rw_eval.specs.Attempts.{attempted}
use Rattle.hc_rw_eval.specs.Conditions.{by_pattern, tested_so_far}
use Rattle.hc_rw_eval.specs.Lists.{begun_again, over as is_over_by}
use Rattle.hc_rw_eval.specs.Locations.{location}
use Rattle.hc_rw_eval.specs.declared.attempt.Rewritten.{Rewritten}
use Rattle.hc_rw_expand.specs.Contexts.{Context}
use Rattle.hc_rw_expand.specs.Groups.{group_of}
use Rattle.hc_rw_expand.specs.Values.{request_line}
use Rattle.hc_rw_expand.specs.Variables.{variable_set}
use Rattle.hc_rw_expand.specs.declared.state.RwState.{RwState}
use Rattle.hc_steps.specs.Run.{Run, Way, goes_on, is_over, run}
use Rattle.hc_steps.specs.Step.{Shown}
use Rattle.hc_template.specs.Variables.{header_value}
use Rattle.hc_abs_rw.specs.Attempts.{Attempted}
use Rattle.hc_abs_rw.specs.Conditions.{Tried}
use Rattle.hc_abs_rw.specs.Lists.{Listed, SoFar, Stop, again, answered, over}
use Rattle.hc_abs_rw.specs.Substitutions.{Made, Then, goes_on as on, outside, redirect, status}
use Rattle.hc_abs_rw.specs.Templates.{header_slot}

-- ---- types of hc_rw_eval that it does not pass on, by what gives them

abbrev pub ValueOf : {A B : Type 0} → (A → B) → Type 0
ValueOf {A} {B} give = B

abbrev pub Attempt : Type 0
Attempt = ValueOf (attempted true)

abbrev pub Seen : Type 0
Seen = ValueOf by_pattern

abbrev pub Tested : Type 0
Tested = ValueOf (tested_so_far true)

abbrev pub Round : Type 0
Round = ValueOf (is_over_by true)

-- ---- states

-- The slots have the values of a request and of what rules have come to.
pub record Stands (context : Context) (state : RwState) (slots : Slot → List ℕ) (client : Addr) : Type 0 where
  pub text : slots Slot.Text ≡ state.text
  pub query : slots Slot.Query ≡ state.query
  pub info : slots Slot.Info ≡ state.info
  pub end : slots Slot.End ≡ (if state.end then codes "1" else [])
  pub path : slots Slot.Path ≡ context.path
  pub method : slots Slot.Method ≡ context.caller.request.method
  pub request : slots Slot.Request ≡ request_line context.caller.request
  pub variables : (name : List ℕ) → slots (Slot.Env name) ≡ variable_set state.vars name
  pub headers : (name : List ℕ) → slots (header_slot name) ≡ header_value context.caller.request.headers name
  pub caller : client ≡ context.caller.request.client

abbrev pub slot_value : Context → RwState → Slot → List ℕ
slot_value context state Slot.Origin = context.path
slot_value context state Slot.Path = context.path
slot_value context state Slot.Query = state.query
slot_value context state Slot.FirstQuery = context.first_query
slot_value context state Slot.Text = state.text
slot_value context state Slot.Name = state.text
slot_value context state Slot.Info = state.info
slot_value context state Slot.End = if state.end then codes "1" else []
slot_value context state Slot.Method = context.caller.request.method
slot_value context state Slot.Request = request_line context.caller.request
slot_value context state Slot.Location = []
slot_value context state (Slot.Env name) = variable_set state.vars name
slot_value context state (Slot.Header name) = header_value context.caller.request.headers name

-- A state of plans for a request and what rules have come to, with nothing held and no text in hand.
abbrev pub started : Context → RwState → State
started context state = record {
  slots = slot_value context state;
  given = all_three (λ at. []);
  texts = all_three [];
  client = context.caller.request.client;
}

-- The groups that a template can name.
abbrev pub named : (ℕ → List ℕ) → ℕ → List ℕ
named given number = if nat_lt number 10 then given number else []

-- What is held is what the groups hold.
pub record HoldsGroups (state : RwState) (groups cond_groups : ℕ → List ℕ) : Type 0 where
  pub own : (number : ℕ) → named groups number ≡ group_of state.groups number
  pub cond : (number : ℕ) → named cond_groups number ≡ group_of state.cond_groups number

-- ---- runs

abbrev pub decision_of : Event → List Decision
decision_of (event.Cond spot held) = decision.Cond spot.place held ∷ []
decision_of (event.Rule spot matched) = decision.Rule spot.place matched ∷ []
decision_of other = []

abbrev pub decisions_in : List Event → List Decision
decisions_in events = flat_map decision_of events

-- Where the one ends, there the other is, with these decisions; and a text is too long for both.
abbrev pub Like : {A B : Type 0} → (State → A → Way Outcome B → List Decision → Type 0) → PlanRun A
    → Run Outcome B → Type 0
Like R (ended state end) steps = R state end steps.way (decisions_in steps.events)
Like R too_long steps = steps.way ≡ is_over (outcome.Outside LongText)
Like R left_out steps = ⊥

abbrev pub Meets : Context → RwState → State → Type 0
Meets context left state = Stands context left state.slots state.client

abbrev pub TestedLike : Context → List Decision → State → Tried → Way Outcome Tested → List Decision
    → Type 0
TestedLike context so_far state tried way decisions =
    (left : RwState) × (way ≡ goes_on (tested_so_far tried.holds left)) × (tried.decisions ≡ so_far ++ decisions)
    × Meets context left state × HoldsGroups left state.given.first state.given.second

-- What follows, where the state that goes on is seen as a value.
abbrev pub Leads : {B : Type 0} → Context → (RwState → B) → State → Then → Way Outcome B → Type 0
Leads context value state on way = (left : RwState) × (way ≡ goes_on (value left)) × Meets context left state
Leads context value state (status number) way = way ≡ is_over (outcome.Status number)
Leads context value state (redirect number front noescape) way =
    way ≡ is_over (outcome.Redirect number
    (location noescape front (state.slots Slot.Location) context.first_query (state.slots Slot.Query)))
Leads context value state (outside reason) way = way ≡ is_over (outcome.Outside reason)

abbrev pub rewritten_so : Bool → RwState → Rewritten
rewritten_so substituted left = record { state = left; substituted = substituted }

abbrev pub MadeLike : Context → Bool → State → Made → Way Outcome Rewritten → List Decision → Type 0
MadeLike context substituted state made way decisions =
    (decisions ≡ []) × Leads context (rewritten_so (made.substituted || substituted)) state made.next way

abbrev pub AttemptLike : Context → Bool → List Decision → State → Attempted → Way Outcome Attempt
    → List Decision → Type 0
AttemptLike context substituted so_far state attempt way decisions =
    (attempt.decisions ≡ so_far ++ decisions)
    × Leads context (λ left. attempted attempt.matched (rewritten_so (attempt.made.substituted || substituted) left))
    state attempt.made.next way

-- N goes on by its bound of rounds. An answer is no round.
abbrev pub StopsLike : Context → Shown → ℕ → SoFar → State → Stop → Way Outcome Round → Type 0
StopsLike context shown round so_far state (over passed) way =
    Leads context (λ left. is_over_by passed (rewritten_so so_far.substituted left)) state on way
StopsLike context shown round so_far state (again rule) way =
    (left : RwState) × (way ≡ (run (begun_again rule round (rewritten_so so_far.substituted left)) shown).way)
    × Meets context left state
StopsLike context shown round so_far state (answered next) way =
    Leads context (λ left. is_over_by false (rewritten_so so_far.substituted left)) state next way

abbrev pub ListLike : Context → Shown → ℕ → List Decision → State → Listed → Way Outcome Round
    → List Decision
    → Type 0
ListLike context shown round so_far state listed way decisions =
    (listed.left.decisions ≡ so_far ++ decisions) × StopsLike context shown round listed.left state listed.stop way
