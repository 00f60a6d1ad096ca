-- A text that a rule makes, as a text in hand of a plan, and what is found where it leads.
use Rattle.std.specs.Prelude.{◌≡◌, ℕ, List, [], ◌∷◌, ◌++◌, Bool, true, false, Option, None, Some}
use Rattle.std.specs.Prelude.{if◌then◌else◌, is_some, option_map, Result}
use Rattle.std.specs.List.{after_first, before_first}
use Rattle.hc_addr.specs.declared.addr.Addr.{Addr}
use Rattle.hc_base.specs.Bytes.{is_question}
use Rattle.hc_cells.specs.Cells.{Sets}
use Rattle.hc_cells.specs.declared.ties.Ties.{Ties}
use Rattle.hc_dfa.specs.Automata.{Automaton, accepts}
use Rattle.hc_dfa.specs.Texts.{TextSet}
use Rattle.hc_model.specs.declared.outcome.Reason.{Reason}
use Rattle.hc_model.specs.declared.rewrite.Flags.{Flags}
use Rattle.hc_model.specs.declared.walk.Kind.{Kind}
use Rattle.hc_pat_lang.specs.Sets.{AcceptsOnly}
use Rattle.hc_plan.specs.Branches.{StoredHas, StoredIn}
use Rattle.hc_plan.specs.Coded.{AllFit, AreBranches}
use Rattle.hc_plan.specs.Hands.{parts_of, set_in}
use Rattle.hc_plan.specs.Plan.{Plan, Stored as PlanStored, make, take_up}
use Rattle.hc_plan.specs.Slots.{Slot}
use Rattle.hc_plan.specs.States.{AbsState, Has, this, whole}
use Rattle.hc_plan.specs.Texts.{IsSetOf, pick}
use Rattle.hc_plan.specs.Ways.{IsHandSet, Stands}
use Rattle.hc_plan.specs.declared.hand.Element.{Element}
use Rattle.hc_plan.specs.declared.hand.Element.TheVariants as element
use Rattle.hc_plan.specs.declared.hand.Way.{Way}
use Rattle.hc_plan.specs.declared.storing.Stored.{Stored}
use Rattle.hc_plan.specs.declared.storing.Tied.{Tied}
use Rattle.hc_rw_eval.specs.Locations.{own_path}
use Rattle.hc_rw_eval.specs.Substitutions.{front_of, redirects}
use Rattle.hc_rw_expand.specs.Contexts.{engine_of}
use Rattle.hc_rw_expand.specs.Lookups.{Values}
use Rattle.hc_rw_expand.specs.Queries.{appended}
use Rattle.hc_rw_sets.specs.Made.{MadeOf, MadeOfBoth}
use Rattle.hc_steps.specs.Step.{Path}
use Rattle.hc_template.specs.Variables.{origin}
use Rattle.hc_abs_rw.specs.Applied.{AppliedFits, TiedFits, front_by}
use Rattle.hc_abs_rw.specs.Frames.{Frame, common}
use Rattle.hc_abs_rw.specs.Known.{client_given}
use Rattle.hc_abs_rw.specs.Substitutions.{Made, Setting, front_plan, left_plan, nothing_made, outside, own_rest}
use Rattle.hc_abs_rw.specs.Substitutions.{path_plan, query_plan, sent_plan, text_plan}
use Rattle.hc_abs_rw.specs.Templates.{main, second, slot_item}
use Rattle.hc_abs_rw.specs.declared.apply.Applied.{Applied}
use Rattle.hc_abs_rw.specs.declared.apply.Next.TheVariants as next
use Rattle.hc_abs_rw.specs.declared.draft.Draft.{Draft}
use Rattle.hc_abs_rw.specs.declared.draft.Task.{Task}

-- ---- texts in hand

-- The value of a slot.
abbrev pub slot_alone : Slot → List Element
slot_alone slot = element.Open slot 0 ∷ []

-- The old query, which QSD drops.
abbrev pub kept_query : Bool → List Element
kept_query true = []
kept_query false = slot_alone Slot.Query

-- A text of these elements is in hand, and nothing is looked up.
pub record InHand (tied : Tied) (text : List Element) (side : Option Automaton) (client : Option Addr)
    (state : AbsState) :
    Type 0 where
  pub stands : Stands tied.cell tied.ties text 0 side state main
  pub looked : state.given.third ≡ λ at. this []
  pub printed : state.printed ≡ client_given client

pub record Sits (draft : Draft) (client : Option Addr) (state : AbsState) : Type 0 where
  pub text : InHand draft.tied draft.text.now draft.side client state
  pub query : pick state.texts second ≡ whole (parts_of draft.query.now)

abbrev pub on_way : Draft → Way → Draft
on_way draft way = record draft { tied = record (draft.tied) { cell = way.cell }; side = way.side }

-- Each text that it may be is in the set.
pub record SitsIn (set : TextSet) (draft : Draft) (client : Option Addr) (state : AbsState) : Type 0 where
  pub sits : Sits draft client state
  pub within : (x : List ℕ) → Has state.cell (pick state.texts main) x → set x ≡ true

-- Where the request goes is outside.
abbrev pub outside_of : Tied → Reason → Applied
outside_of tied reason = record {
  tied = tied;
  made =
      record { substituted = false; replaced = false; next = next.Outside reason };
}

-- The automaton of the texts that it may be.
abbrev pub IsTextSet : Draft → Automaton → Type 0
IsTextSet draft = IsHandSet draft.tied.cell draft.text.now 0 draft.side

-- ---- what is found

abbrev pub frame_in : Task → (Path → Kind) → Values → Frame
frame_in task kind values = record {
  caller = common task.tests.now;
  root = option_map (λ root. root.now) task.root;
  engine = option_map engine_of task.engine;
  kind = kind;
  values = values;
}

-- What is found by a plan is added, for all states of which this is known.
pub record Adds (task : Task) (Known : Option Addr → AbsState → Type 0) (plan : Frame → Plan Made)
    (before after : List Applied) :
    Type 0 where
  pub found : List Applied
  pub more : after ≡ before ++ found
  pub led : (kind : Path → Kind) (values : Values) (client : Option Addr) (state : AbsState) → Known client state
      → AreBranches (AppliedFits client (common task.tests.now)) (plan (frame_in task kind values)) state found

-- Nothing where there is no way.
abbrev pub AddsBy : Task → (Way → Option Addr → AbsState → Type 0) → (Frame → Plan Made) → Option Way
    → List Applied → List Applied → Type 0
AddsBy task Known plan None before after = after ≡ before
AddsBy task Known plan (Some way) before after = Adds task (Known way) plan before after

-- A plan of what follows where a text is in hand with a query, by whether that replaces the old one.
abbrev pub Leads : Type 0
Leads = Frame → Flags → Setting → Bool → Plan Made

abbrev pub by_task : Task → Leads → Bool → Frame → Plan Made
by_task task plan replaced frame = plan frame task.flags.now task.setting replaced

abbrev pub AddsLed : Task → Leads → Draft → List Applied → List Applied → Type 0
AddsLed task plan draft = Adds task (Sits draft) (by_task task plan draft.replaced)

abbrev pub AddsOn : Task → Leads → Draft → Option Way → List Applied → List Applied → Type 0
AddsOn task plan draft = AddsBy task (λ way. Sits (on_way draft way)) (by_task task plan draft.replaced)

-- ---- where a text leads

abbrev pub left_here : Leads
left_here frame flags setting replaced = left_plan flags replaced

abbrev pub sent_to : Bool → Leads
sent_to own frame flags setting replaced = sent_plan flags setting replaced (front_by own frame.caller)

abbrev pub outside_as : Reason → Leads
outside_as reason frame flags setting replaced = nothing_made (outside reason)

abbrev pub own_left : Leads
own_left frame flags setting replaced =
    make main (λ text also. own_rest frame flags setting replaced text) main main (left_plan flags replaced)

-- Where the text is a URL of the server's own.
abbrev pub AddsOwn : Task → Draft → Option Way → List Applied → List Applied → Type 0
AddsOwn task draft =
    AddsBy task (λ way. SitsIn (λ text. is_some (own_path task.tests.now text)) (on_way draft way))
    (by_task task own_left draft.replaced)

abbrev pub fronted_by : Result (List ℕ) Reason → Leads
fronted_by front frame flags setting replaced = front_plan frame flags setting replaced front

abbrev pub fronted_plan : Leads
fronted_plan frame flags setting replaced =
    fronted_by (front_of frame.engine (redirects flags)) frame flags setting replaced

abbrev pub path_sent : Leads
path_sent frame flags setting replaced =
    path_plan frame flags setting replaced frame.engine (sent_plan flags setting replaced (origin frame.caller))

-- ---- queries

-- The ways of the test for a `?`.
abbrev pub AddsSplit : Task → (Frame → Flags → Setting → Plan Made) → Ties → List Element → Option Way
    → List Applied → List Applied → Type 0
AddsSplit task plan ties text =
    AddsBy task (λ way. InHand (record { cell = way.cell; ties = ties }) text way.side)
    (λ frame. plan frame task.flags.now task.setting)

abbrev pub new_query_plan : Frame → Flags → Setting → Plan Made
new_query_plan frame flags setting =
    query_plan flags (make main (λ text also. before_first is_question text) main main
    (text_plan frame flags setting true))

abbrev pub kept_query_plan : Frame → Flags → Setting → Plan Made
kept_query_plan frame flags setting =
    take_up second (if flags.qsd then [] else slot_item Slot.Query ∷ []) (text_plan frame flags setting flags.qsd)

-- The new queries, with the old one behind them.
pub record AreAppended (sets : Sets) (new made : Automaton) : Type 0 where
  pub old : Automaton
  pub is_old : IsHandSet sets (slot_alone Slot.Query) 0 None old
  pub both : AcceptsOnly (MadeOfBoth appended (accepts new) (accepts old)) made

abbrev pub AreNew : Automaton → Automaton → Type 0
AreNew texts = AcceptsOnly (MadeOf (after_first is_question) (accepts texts))

abbrev pub AreQueries : Bool → Sets → Automaton → Automaton → Type 0
AreQueries true sets texts made = (new : Automaton) × AreNew texts new × AreAppended sets new made
AreQueries false sets texts made = AreNew texts made

-- ---- what is stored

-- What code stores is what the plan stores in a slot.
pub record StoresFrom (draft : Draft) (one : Slot × PlanStored) (stored : Stored) : Type 0 where
  pub slot : one.0 ≡ stored.slot
  pub set : (client : Option Addr) (state : AbsState) → Sits draft client state
      → IsSetOf (set_in stored.set) (StoredHas state one.1)

pub record AddsStored (draft : Draft) (list : List (Slot × PlanStored)) (before after : List Stored) : Type 0 where
  pub found : List Stored
  pub more : after ≡ before ++ found
  pub same : AllFit (StoresFrom draft) list found

-- What is left where all this is stored.
abbrev pub StoresAll : Draft → List (Slot × PlanStored) → Tied → Type 0
StoresAll draft list tied =
    (client : Option Addr) (state : AbsState) → Sits draft client state
    → (next : AbsState) × StoredIn state list state next × TiedFits client tied next
