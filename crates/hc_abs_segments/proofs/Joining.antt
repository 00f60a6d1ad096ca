-- A run of the plan of a segment beside a run of the segment, stage by stage.
use Rattle.hc_abs_segments.proofs.Common.{◌≡◌, ◌∙◌, ℕ, List, [], ◌∷◌, ◌++◌, Option, refl, sym, ap, subst}
use Rattle.hc_abs_segments.proofs.Common.{append_assoc, State, PlanRun, ended, too_long, left_out, plan_then}
use Rattle.hc_abs_segments.proofs.Common.{Decision, Event, Outcome, Run, Way, goes_on, is_over, behind, on_way}
use Rattle.hc_abs_segments.proofs.Common.{run_then, saying, run, Shown, Step, leaves, ends, say, look, ◌>>=◌, ending}
use Rattle.hc_abs_segments.proofs.Common.{Like, decision_of, decisions_in}
use Rattle.hc_include.proofs.Ending.{end_run, end_way, run_ending}
use Rattle.hc_model.specs.declared.authorization.ReqTree.{ReqTree}
pub use Rattle.hc_serve.proofs.Segments.{parted}
use Rattle.hc_serve.specs.Passing.{followed_by, with_tree}
use Rattle.hc_serve.specs.Segments.{Cut, at_pass}
use Rattle.hc_serve.specs.Site.{Site}
use Rattle.hc_serve.specs.declared.stage.Ended.{Ended}
use Rattle.hc_serve.specs.declared.stage.Pass.{Pass}
pub use Rattle.hc_rw_eval.proofs.Turns.{assoc}
use Rattle.hc_steps.proofs.Running.{in_turn}
use Rattle.hc_abs_rw.proofs.Staging.{Relation, decisions_joined}
use Rattle.hc_abs_pass.specs.Passing.{Segment}
use Rattle.hc_abs_segments.specs.Agreeing.{LikeSegment, SegmentLike, led}

-- ---- a step that ends with a tree, and what follows it

abbrev pub begun_in : {A : Type 0} → Option ReqTree → Run Outcome A → Run Ended A
begun_in require first = end_run (with_tree require) first

abbrev pub over_at : {A : Type 0} → Run Outcome A → Ended → Run Ended Cut
over_at first end = record { events = first.events; reads = first.reads; way = is_over end }

module _ (site : Site) (pass : Pass) (round inner : ℕ) where
  abbrev pub Agrees : List Decision → PlanRun Segment → Run Ended Cut → Type 0
  Agrees so_far first steps = LikeSegment (SegmentLike site pass round inner so_far) first steps

  -- Behind a run with these decisions.
  pub agrees_behind : {A : Type 0} (so_far between : List Decision) (first : PlanRun Segment) (before : Run Ended A)
      (later : Run Ended Cut) → between ≡ so_far ++ decisions_in before.events → Agrees between first later
      → Agrees so_far first (behind before later)
  agrees_behind so_far between (ended s end) before later is like = record {
    decided = like.decided ∙ ap (λ between. between ++ decisions_in later.events) is
        ∙ append_assoc so_far (decisions_in before.events) (decisions_in later.events)
        ∙ ap (λ all. so_far ++ all) (sym (decisions_joined before.events later.events));
    leads = like.leads;
  }
  agrees_behind so_far between too_long before later is like = like
  agrees_behind so_far between left_out before later is like = like

  -- Behind an event that decides nothing.
  pub agrees_saying : (so_far : List Decision) (event : Event) (first : PlanRun Segment) (later : Run Ended Cut)
      → decision_of event ≡ [] → Agrees so_far first later → Agrees so_far first (saying event later)
  agrees_saying so_far event (ended s end) later none like = record {
    decided = like.decided ∙ ap (λ own. so_far ++ (own ++ decisions_in later.events)) (sym none);
    leads = like.leads;
  }
  agrees_saying so_far event too_long later none like = like
  agrees_saying so_far event left_out later none like = like

  module _ {B : Type 0} (require : Option ReqTree) (before : Run Outcome B) (further : B → Run Ended Cut) where
    -- The step goes on.
    pub on_goes : (so_far between : List Decision) (first : PlanRun Segment) (value : B) → before.way ≡ goes_on value
        → between ≡ so_far ++ decisions_in before.events → Agrees between first (further value)
        → Agrees so_far first (run_then (begun_in require before) further)
    on_goes so_far between first value is same like =
        subst (λ way. Agrees so_far first (on_way (begun_in require before) (end_way (with_tree require) way) further))
        (sym is) (agrees_behind so_far between first (begun_in require before) (further value) same like)

    -- The step ends.
    pub on_over : (so_far : List Decision) (first : PlanRun Segment) (end : Outcome) → before.way ≡ is_over end
        → Agrees so_far first (over_at before (with_tree require end))
        → Agrees so_far first (run_then (begun_in require before) further)
    on_over so_far first end is like =
        subst (λ way. Agrees so_far first (on_way (begun_in require before) (end_way (with_tree require) way) further))
        (sym is) like

  module _ {B : Type 0} (require : Option ReqTree) (step : Step Outcome B) (further : B → Step Ended Cut)
      (shown : Shown) where
    whole : run (ending (with_tree require) step >>= further) shown
        ≡ run_then (begun_in require (run step shown)) (λ value. run (further value) shown)
    whole =
        in_turn (ending (with_tree require) step) further shown
        ∙ ap (λ first. run_then first (λ value. run (further value) shown)) (run_ending (with_tree require) step shown)

    pub agrees_whole : (so_far : List Decision) (first : PlanRun Segment)
        → Agrees so_far first (run_then (begun_in require (run step shown)) (λ value. run (further value) shown))
        → Agrees so_far first (run (ending (with_tree require) step >>= further) shown)
    agrees_whole so_far first is = subst (Agrees so_far first) (sym whole) is

    -- What follows a plan and a step that are alike.
    pub agrees_then : {A : Type 0} (R : Relation A B) (so_far : List Decision) (first : PlanRun A)
        (next : A → State → PlanRun Segment)
        → Like R first (run step shown)
        → ((s : State) (end : A) → R s end (run step shown).way (decisions_in (run step shown).events)
        → Agrees so_far (next end s)
        (run_then (begun_in require (run step shown)) (λ value. run (further value) shown)))
        → Agrees so_far (plan_then first next) (run (ending (with_tree require) step >>= further) shown)
    agrees_then {A} R so_far first next is later = agrees_whole so_far (plan_then first next) (by first is)
      where
        by : (first : PlanRun A) → Like R first (run step shown)
            → Agrees so_far (plan_then first next)
            (run_then (begun_in require (run step shown)) (λ value. run (further value) shown))
        by (ended s end) is = later s end is
        by too_long is = (
          require,
          ap (λ way. (on_way (begun_in require (run step shown)) (end_way (with_tree require) way)
              (λ value. run (further value) shown)).way) is,
        )
        by left_out is = is

  -- ---- what becomes of a pass

  module _ (require : Option ReqTree) where
    abbrev pub to_cut : Pass → Step Ended Cut
    to_cut pass = leaves (at_pass (followed_by require pass))

    led_way : (step : Step Outcome Pass) (shown : Shown)
        → (run (ending (with_tree require) step >>= to_cut) shown).way ≡ led require (run step shown).way
    unfolding run ending ◌>>=◌
    led_way (leaves left) shown = refl
    led_way (ends end) shown = refl
    led_way (say event rest) shown = led_way rest shown
    led_way (look read rest) shown = led_way (rest (shown read)) shown

    led_events : (step : Step Outcome Pass) (shown : Shown)
        → (run (ending (with_tree require) step >>= to_cut) shown).events ≡ (run step shown).events
    unfolding run ending ◌>>=◌
    led_events (leaves left) shown = refl
    led_events (ends end) shown = refl
    led_events (say event rest) shown = ap (λ rest. event ∷ rest) (led_events rest shown)
    led_events (look read rest) shown = led_events (rest (shown read)) shown

    -- The plan ends a segment as a step ends a pass.
    pub agrees_led : (R : Relation Segment Pass) (so_far : List Decision)
        → ((s : State) (segment : Segment) (way : Way Outcome Pass) (decisions : List Decision)
        → R s segment way decisions
        → SegmentLike site pass round inner so_far s segment (led require way) decisions)
        → (first : PlanRun Segment) (step : Step Outcome Pass) (shown : Shown) → Like R first (run step shown)
        → Agrees so_far first (run (ending (with_tree require) step >>= to_cut) shown)
    agrees_led R so_far each (ended s segment) step shown is =
        let like = each s segment (run step shown).way (decisions_in (run step shown).events) is in
        subst (λ way. SegmentLike site pass round inner so_far s segment way
        (decisions_in (run (ending (with_tree require) step >>= to_cut) shown).events)) (sym (led_way step shown))
        (subst (λ events. SegmentLike site pass round inner so_far s segment (led require (run step shown).way)
        (decisions_in events)) (sym (led_events step shown)) like)
    agrees_led R so_far each too_long step shown is = (require, led_way step shown ∙ ap (led require) is)
    agrees_led R so_far each left_out step shown is = is
