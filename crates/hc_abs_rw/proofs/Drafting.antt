-- A text that a rule makes: what is found on the ways of its tests, at its ends, and where it is made anew.
use Rattle.hc_abs_rw.proofs.Common.{◌≡◌, ◌∙◌, ℕ, List, [], ◌∷◌, ◌++◌, Bool, true, false, not}
use Rattle.hc_abs_rw.proofs.Common.{Option, None, Some, refl, sym, ap, subst, inl, append_assoc, append-nil, Frame}
use Rattle.hc_abs_rw.proofs.Common.{Plan, pick}
use Rattle.std.specs.Borrow.{Bor}
use Rattle.hc_addr.specs.declared.addr.Addr.{Addr}
use Rattle.hc_dfa.specs.Automata.{Automaton}
use Rattle.hc_dfa.specs.Texts.{IsText, TextSet}
use Rattle.hc_model.specs.declared.outcome.Reason.{Reason}
use Rattle.hc_model.specs.declared.walk.Kind.{Kind}
use Rattle.hc_plan.proofs.Coded.{Follows, Keeps, end_fits, make_fits, test_fits}
use Rattle.hc_plan.specs.Branches.{Image, others}
use Rattle.hc_plan.specs.Coded.{AreBranches}
use Rattle.hc_plan.specs.Hands.{parts_of, set_in}
use Rattle.hc_plan.specs.Plan.{make, test}
use Rattle.hc_plan.specs.States.{AbsState, AbsText, any_of, with_text}
use Rattle.hc_plan.specs.Texts.{IsSetOf, Three}
use Rattle.hc_plan.specs.Ways.{Stands, on}
use Rattle.hc_plan.specs.declared.hand.Element.{Element}
use Rattle.hc_plan.specs.declared.hand.Element.TheVariants as element
use Rattle.hc_plan.specs.declared.hand.Way.{Way}
use Rattle.hc_plan.specs.declared.storing.Tied.{Tied}
use Rattle.hc_rw_expand.specs.Lookups.{Values}
use Rattle.hc_steps.specs.Step.{Path}
use Rattle.hc_abs_rw.specs.Applied.{AppliedFits, TiedFits, made_of}
use Rattle.hc_abs_rw.specs.Conditions.{counted_set}
use Rattle.hc_abs_rw.specs.Drafts.{Adds, AddsBy, AddsLed, AddsOn, InHand, Leads, Sits, SitsIn, by_task, frame_in}
use Rattle.hc_abs_rw.specs.Drafts.{on_way, outside_as, outside_of}
use Rattle.hc_abs_rw.specs.Frames.{common}
use Rattle.hc_abs_rw.specs.Substitutions.{Made}
use Rattle.hc_abs_rw.specs.Templates.{main, second}
use Rattle.hc_abs_rw.specs.Trials.{AreWays}
use Rattle.hc_abs_rw.specs.declared.apply.Applied.{Applied}
use Rattle.hc_abs_rw.specs.declared.draft.Draft.{Draft}
use Rattle.hc_abs_rw.specs.declared.draft.Task.{Task}
use Rattle.hc_abs_rw.specs.declared.ways.Ways.{Ways}
use Rattle.hc_abs_rw.proofs.Trials.{apart_on, asked_on}

-- ---- a test

module _ (task : Task) (Known : Option Addr → AbsState → Type 0) (tied : Tied) (text : List Element)
    (side : Option Automaton)
    (stands : (client : Option Addr) (state : AbsState) → Known client state
    → Stands tied.cell tied.ties text 0 side state main) where
  -- What is known on a way.
  abbrev pub LeavesBy : (Frame → TextSet) → (Way → Option Addr → AbsState → Type 0) → Type 0
  LeavesBy asked By = (kind : Path → Kind) (values : Values) (way : Way) (client : Option Addr) (state now : AbsState)
      → Known client state → Stands way.cell tied.ties text 0 way.side now main
      → Keeps state main (asked (frame_in task kind values)) now → By way client now

  record Taken (asked : Frame → TextSet) (led : Frame → Plan Made) (way : Option Way)
      (before after : List Applied) :
      Type 0 where
    one : List Applied
    more : after ≡ before ++ one
    follows : (kind : Path → Kind) (values : Values) (client : Option Addr) (state : AbsState)
        (known : Known client state)
        → Follows (AppliedFits client (common task.tests.now)) tied.cell tied.ties text 0 side state main
        (stands client state known) (λ now. now) (asked (frame_in task kind values)) (led (frame_in task kind values))
        way
        one

  taken : (By : Way → Option Addr → AbsState → Type 0) (asked : Frame → TextSet) → LeavesBy asked By
      → (led : Frame → Plan Made) (way : Option Way) (before after : List Applied)
      → AddsBy task By led way before after → Taken asked led way before after
  taken By asked by led None before after adds = record {
    one = [];
    more = adds ∙ sym (append-nil before);
    follows = λ kind values client state known. refl;
  }
  taken By asked by led (Some way) before after adds = record {
    one = adds.found;
    more = adds.more;
    follows = λ kind values client state known now is keeps.
        adds.led kind values client now (by kind values way client state now known is keeps);
  }

  module _ (Held Failed : Way → Option Addr → AbsState → Type 0) (negated : Bool) (set : Frame → TextSet)
      (found : TextSet) (held_by : LeavesBy (λ frame. counted_set negated (set frame)) Held)
      (failed_by : LeavesBy (λ frame. others (counted_set negated (set frame))) Failed)
      (means : (kind : Path → Kind) (values : Values) (x : List ℕ) → IsText x
      → found x ≡ set (frame_in task kind values) x)
      (ways : Ways) (are : AreWays tied.cell tied.ties text 0 side negated found ways)
      (plan : Bool → Frame → Plan Made)
      (before mid after : List Applied) where
    pub tested : AddsBy task Held (plan true) ways.held before mid
        → AddsBy task Failed (plan false) ways.failed mid after
        → Adds task Known (λ frame. test main (counted_set negated (set frame)) (λ is. plan is frame)) before after
    tested first rest =
        let one = taken Held (λ frame. counted_set negated (set frame)) held_by (plan true) ways.held before mid
        first in
        let other = taken Failed (λ frame. others (counted_set negated (set frame))) failed_by (plan false) ways.failed
        mid
        after rest in
        record {
          found = one.one ++ other.one;
          more =
              other.more ∙ ap (λ so_far. so_far ++ other.one) one.more ∙ append_assoc before one.one other.one;
          led = λ kind values client state known.
              let frame = frame_in task kind values in
              test_fits (AppliedFits client (common task.tests.now)) tied.cell tied.ties text 0 side state main
              (stands client state known) (counted_set negated (set frame)) (on (not negated) found) (on negated found)
              (λ is. plan is frame) ways.held ways.failed one.one other.one
              (λ x bytes. asked_on negated (set frame) found x (means kind values x bytes))
              (λ x bytes. apart_on negated (set frame) found x (means kind values x bytes)) are.0 are.1
              (other.follows kind values client state known) (one.follows kind values client state known);
        }

-- Nothing else is changed by a test.
pub hand_on : (tied : Tied) (text : List Element) (side : Option Automaton) (way : Way) (set : TextSet)
    (client : Option Addr) (state now : AbsState) → InHand tied text side client state
    → Stands way.cell tied.ties text 0 way.side now main → Keeps state main set now
    → InHand (record { cell = way.cell; ties = tied.ties }) text way.side client now
hand_on tied text side way set client state now hand stands keeps = record {
  stands = stands;
  looked = ap (λ given. given.third) keeps.given ∙ hand.looked;
  printed = keeps.printed ∙ hand.printed;
}

pub sits_on : (draft : Draft) (way : Way) (set : TextSet) (client : Option Addr) (state now : AbsState)
    → Sits draft client state → Stands way.cell draft.tied.ties draft.text.now 0 way.side now main
    → Keeps state main set now → Sits (on_way draft way) client now
sits_on draft way set client state now sits stands keeps = record {
  text = hand_on draft.tied draft.text.now draft.side way set client state now sits.text stands keeps;
  query = ap (λ (texts : Three AbsText). pick texts second) keeps.texts ∙ sits.query;
}

module _ (task : Task) (draft : Draft) (set : Frame → TextSet) (found : TextSet) (negated : Bool)
    (means : (kind : Path → Kind) (values : Values) (x : List ℕ) → IsText x
    → found x ≡ set (frame_in task kind values) x)
    (ways : Ways) (are : AreWays draft.tied.cell draft.tied.ties draft.text.now 0 draft.side negated found ways)
    (held failed : Leads) (before mid after : List Applied) where
  abbrev on_ways : Way → Option Addr → AbsState → Type 0
  on_ways way = Sits (on_way draft way)

  abbrev by_way : Bool → Frame → Plan Made
  by_way is frame = elim is [
    | true ↦ by_task task held draft.replaced frame
    | false ↦ by_task task failed draft.replaced frame
  ]

  stands_by : (client : Option Addr) (state : AbsState) → Sits draft client state
      → Stands draft.tied.cell draft.tied.ties draft.text.now 0 draft.side state main
  stands_by client state sits = sits.text.stands

  failed_by : LeavesBy task (Sits draft) draft.tied draft.text.now draft.side stands_by
      (λ frame. others (counted_set negated (set frame))) on_ways
  failed_by kind values way client state now sits stands keeps =
      sits_on draft way (others (counted_set negated (set (frame_in task kind values)))) client state now sits stands
      keeps

  pub asked : AddsOn task held draft ways.held before mid → AddsOn task failed draft ways.failed mid after
      → Adds task (Sits draft) (λ frame. test main (counted_set negated (set frame)) (λ is. by_way is frame))
      before after
  asked =
      tested task (Sits draft) draft.tied draft.text.now draft.side stands_by on_ways on_ways negated set found
      (λ kind values way client state now sits stands keeps.
      sits_on draft way (counted_set negated (set (frame_in task kind values))) client state now sits stands keeps)
      failed_by means ways are by_way before mid after

  -- On the first way each text is in a set that holds what the test asks.
  pub asked_within : (within : TextSet)
      → ((kind : Path → Kind) (values : Values) (x : List ℕ)
      → counted_set negated (set (frame_in task kind values)) x ≡ true
      → within x ≡ true)
      → AddsBy task (λ way. SitsIn within (on_way draft way)) (by_task task held draft.replaced) ways.held before mid
      → AddsOn task failed draft ways.failed mid after
      → Adds task (Sits draft) (λ frame. test main (counted_set negated (set frame)) (λ is. by_way is frame))
      before after
  asked_within within implies =
      tested task (Sits draft) draft.tied draft.text.now draft.side stands_by (λ way. SitsIn within (on_way draft way))
      on_ways negated set found
      (λ kind values way client state now sits stands keeps. record {
        sits =
            sits_on draft way (counted_set negated (set (frame_in task kind values))) client state now sits stands
            keeps;
        within = λ x has. implies kind values x (keeps.asked x has);
      })
      failed_by means ways are by_way before mid after

-- ---- drafts

-- The draft on a way is the one that code has.
pub on_led : (task : Task) (plan : Leads) (draft own : Draft) (given : Option Way) (way : Way)
    (before after : List Applied)
    → given ≡ Some way → own ≡ on_way draft way → AddsLed task plan own before after
    → AddsOn task plan draft given before after
on_led task plan draft own given way before after there is led =
    subst (λ given. AddsOn task plan draft given before after) (sym there)
    (subst (λ own. AddsLed task plan own before after) is led)

-- What is found where the text stands stays so by another plan that is the same there.
pub led_alike : (task : Task) (Known : Option Addr → AbsState → Type 0) (plan other : Frame → Plan Made)
    (before after : List Applied)
    → ((kind : Path → Kind) (values : Values)
    → plan (frame_in task kind values) ≡ other (frame_in task kind values))
    → Adds task Known plan before after → Adds task Known other before after
led_alike task Known plan other before after same adds = record {
  found = adds.found;
  more = adds.more;
  led = λ kind values client state known.
      subst (λ plan. AreBranches (AppliedFits client (common task.tests.now)) plan state adds.found) (same kind values)
      (adds.led kind values client state known);
}

-- ---- ends

pub tied_of : (draft : Draft) (client : Option Addr) (state : AbsState) → Sits draft client state
    → TiedFits client draft.tied state
tied_of draft client state sits = record {
  cell = sits.text.stands.holds;
  ties = sits.text.stands.tied;
  looked = sits.text.looked;
  printed = sits.text.printed;
}

pub outside_led : (task : Task) (draft : Draft) (reason : Reason) (applied : Applied) (before after : List Applied)
    → applied ≡ outside_of draft.tied reason → after ≡ before ++ applied ∷ []
    → AddsLed task (outside_as reason) draft before after
outside_led task draft reason applied before after is more = record {
  found = applied ∷ [];
  more = more;
  led = λ kind values client state sits.
      subst (λ applied. AreBranches (AppliedFits client (common task.tests.now))
      (by_task task (outside_as reason) draft.replaced (frame_in task kind values)) state (applied ∷ [])) (sym is)
      (end_fits (AppliedFits client (common task.tests.now)) state
      (made_of (common task.tests.now) (outside_of draft.tied reason).made) (outside_of draft.tied reason)
      (record { known = tied_of draft client state sits; made = refl }));
}

-- ---- a text that is made anew

-- The texts that code makes are those of the plan's image.
abbrev pub AreImages : Task → (Option Addr → AbsState → Type 0) → (Frame → List ℕ → List ℕ)
    → Automaton → Type 0
AreImages task Known image set =
    (kind : Path → Kind) (values : Values) (client : Option Addr) (state : AbsState) → Known client state
    → IsSetOf (set_in set) (Image state (λ text also. image (frame_in task kind values) text) (pick state.texts main)
    (pick state.texts main))

free_sits : (draft : Draft) (text : Bor (List Element)) (set : Automaton) (client : Option Addr) (state : AbsState)
    → text.now ≡ element.Free set ∷ [] → Sits draft client state
    → Sits (record draft { text = text; side = None }) client (with_text state main (any_of (set_in set)))
free_sits draft text set client state is sits = record {
  text = record {
    stands = record {
      holds = sits.text.stands.holds;
      tied = sits.text.stands.tied;
      hand = record { made = ap parts_of (sym is); behind = refl; lies = inl (λ x bytes. refl) };
    };
    looked = sits.text.looked;
    printed = sits.text.printed;
  };
  query = sits.query;
}

pub remade : (task : Task) (Known : Option Addr → AbsState → Type 0) (plan : Leads) (draft changed : Draft)
    (text : Bor (List Element)) (set : Automaton) (image : Frame → List ℕ → List ℕ)
    (before after : List Applied)
    → ((client : Option Addr) (state : AbsState) → Known client state → Sits draft client state)
    → changed ≡ record draft { text = text; side = None } → text.now ≡ element.Free set ∷ []
    → AreImages task Known image set → AddsLed task plan changed before after
    → Adds task Known
    (λ frame. make main (λ text also. image frame text) main main (by_task task plan draft.replaced frame))
    before after
remade task Known plan draft changed text set image before after knows is free are adds =
    let led = subst (λ changed. AddsLed task plan changed before after) is adds in
    record {
      found = led.found;
      more = led.more;
      led = λ kind values client state known.
          make_fits (AppliedFits client (common task.tests.now)) state main
          (λ text also. image (frame_in task kind values) text) main main (set_in set)
          (by_task task plan draft.replaced (frame_in task kind values)) led.found (are kind values client state known)
          (led.led kind values client (with_text state main (any_of (set_in set)))
          (free_sits draft text set client state free (knows client state known)));
    }
