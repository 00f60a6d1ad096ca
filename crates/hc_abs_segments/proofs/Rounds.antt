-- One round of a list, of the server's or of a directory's, and what follows it.
use Rattle.hc_abs_segments.proofs.Common.{◌≡◌, ◌∙◌, ℕ, ◌+◌, List, [], ◌∷◌, ◌++◌, Bool, true, false, if◌then◌else◌}
use Rattle.hc_abs_segments.proofs.Common.{Option, Some, refl, sym, ap, subst}
use Rattle.hc_abs_segments.proofs.Common.{append-nil, State, PlanRun, ended, too_long}
use Rattle.hc_abs_segments.proofs.Common.{left_out, plan_run, Plan, done, and_then, Slot, Outcome, RwState}
use Rattle.hc_abs_segments.proofs.Common.{Run, Way, goes_on, is_over, run_then, run, Shown, Step, leaves, ends, Like}
use Rattle.hc_abs_segments.proofs.Common.{Meets, decisions_in, rewritten_so}
use Rattle.std.specs.Prelude.{nat_le, cond}
use Rattle.std.specs.Option.{unwrap_or}
use Rattle.std.specs.Map.{lookup}
use Rattle.std.specs.Str.{bytes_eq}
use Rattle.hc_model.specs.declared.authorization.ReqTree.{ReqTree}
use Rattle.hc_model.specs.declared.outcome.LimitKind.TheVariants.{Rounds}
use Rattle.hc_model.specs.declared.outcome.Outcome.TheVariants as outcome
use Rattle.hc_model.specs.declared.rewrite.Rule.{Rule}
use Rattle.hc_plan.proofs.Sequence.{runs_in_turn}
use Rattle.hc_rw_eval.specs.Locations.{location}
unfoldable use Rattle.hc_rw_eval.specs.Lists.{begun_again}
use Rattle.hc_rw_eval.specs.Lists.{from_place, next_by, over as is_over_by}
use Rattle.hc_rw_eval.specs.declared.attempt.Rewritten.{Rewritten}
use Rattle.hc_rw_eval.specs.declared.run.Finished.{Finished}
use Rattle.hc_rw_eval.specs.declared.run.NextRound.{NextRound}
use Rattle.hc_rw_eval.specs.declared.run.Round.{Round}
use Rattle.hc_rw_eval.specs.declared.run.Round.TheVariants.{Again}
use Rattle.hc_rw_expand.specs.Contexts.{Context}
use Rattle.hc_rw_expand.specs.Lookups.{Looks}
use Rattle.hc_rw_expand.specs.Variables.{Variables, variable_set, with_value}
use Rattle.hc_serve.specs.Passing.{with_tree}
use Rattle.hc_serve.specs.Segments.{Cut}
unfoldable use Rattle.hc_serve.specs.Segments.{behind_round, one_round}
use Rattle.hc_serve.specs.ServerRules.{looks_of, maps_at}
use Rattle.hc_serve.specs.Site.{Site}
use Rattle.hc_serve.specs.declared.stage.Ended.{Ended}
use Rattle.hc_serve.specs.declared.stage.Pass.{Pass}
use Rattle.hc_abs_rw.specs.Frames.{Frame, frame_of}
use Rattle.hc_abs_rw.specs.Lists.{Listed, SoFar, Stop, again, answered, list_plan, over}
use Rattle.hc_abs_rw.specs.Standing.{ListLike, StopsLike}
use Rattle.hc_abs_rw.specs.Substitutions.{Then, goes_on as on, outside, redirect, status}
use Rattle.hc_abs_rw.proofs.Lists.{list_like}
use Rattle.hc_abs_rw.proofs.Staging.{Relation}
use Rattle.hc_abs_rw.proofs.Variables.{set_again}
use Rattle.hc_abs_pass.specs.Passing.{Finish, Segment, finished_so, ruled}
use Rattle.hc_abs_segments.specs.Agreeing.{FinishLike, begun_by}
use Rattle.hc_abs_segments.proofs.Joining.{Agrees, agrees_then, begun_in, on_goes, on_over}
use Rattle.hc_abs_segments.proofs.Once.{AreOnce, RoundOnce, gives_run, list_once, none_once, once_more, same_turned}
use Rattle.hc_abs_segments.proofs.Stored.{After, IsStop, Stops, list_keeps}

-- With what else is known of the plan's end and of the way.
like_more : {A B : Type 0} (R : Relation A B) (P : A → Type 0) (Q : Way Outcome B → Type 0) (name : List ℕ)
    (first : PlanRun A) (later : Run Outcome B) → Like R first later → After P name first → Q later.way
    → Like (λ s end way decisions. R s end way decisions × ((s.slots Slot.Name ≡ name) × P end) × Q way) first later
like_more R P Q name (ended s end) later is after way = (is, after, way)
like_more R P Q name too_long later is after way = is
like_more R P Q name left_out later is after way = is

-- ---- variables, each name once

each_once : Variables → Variables
each_once [] = []
each_once (each ∷ vars) = with_value (each_once vars) each.0 each.1

each_is_once : (vars : Variables) → AreOnce (each_once vars)
unfolding each_once
each_is_once [] = none_once
each_is_once (each ∷ vars) = once_more each.0 each.1 (each_once vars) (each_is_once vars)

first_is : (each : List ℕ × List ℕ) (vars : Variables) (name : List ℕ)
    → variable_set (each ∷ vars) name ≡ (if bytes_eq each.0 name then each.1 else variable_set vars name)
first_is each vars name =
    by (bytes_eq name each.0)
    ∙ ap (λ is. if is then each.1 else variable_set vars name) (same_turned name each.0)
  where
    by : (is : Bool) → unwrap_or (cond is (Some each.1) (lookup (bytes_eq name) vars)) []
        ≡ (if is then each.1 else variable_set vars name)
    by true = refl
    by false = refl

same_values : (vars : Variables) (name : List ℕ) → variable_set vars name ≡ variable_set (each_once vars) name
unfolding each_once
same_values [] name = refl
same_values (each ∷ vars) name =
    first_is each vars name
    ∙ ap (λ rest. if bytes_eq each.0 name then each.1 else rest) (same_values vars name)
    ∙ sym (set_again each.0 each.1 name (bytes_eq each.0 name) refl (each_once vars))

module _ (site : Site) (pass : Pass) (round inner : ℕ) (require : Option ReqTree) (context : Context)
    (same_first : context.first_query ≡ pass.first_query) (rules : List Rule) (own_round : ℕ)
    (over_step : Finished → Step Ended Cut) (cut : ℕ → NextRound → Cut) (shown : Shown) (name : List ℕ)
    (next : Listed → Plan Segment) (further : Rule → SoFar → Finish) where
  abbrev looks : Looks
  looks = looks_of (maps_at site)

  abbrev frame : Frame
  frame = frame_of context looks shown

  abbrev listed_so : SoFar → Stop → Listed
  listed_so left stop = record { left = left; stop = stop }

  -- Rules have come to this.
  pub record Come (left : RwState) (s : State) : Type 0 where
    pub meets : Meets context left s
    pub once : AreOnce left.vars
    pub file : s.slots Slot.Name ≡ name

  -- What the plan goes on with.
  pub record Follows : Type 0 where
    pub is_again : (rule : Rule) (so_far : SoFar)
        → next (listed_so so_far (again rule)) ≡ done (finished_so require so_far.decisions (further rule so_far))
    pub is_answered : (answer : Then) (so_far : SoFar)
        → next (listed_so so_far (answered answer)) ≡ done (finished_so require so_far.decisions (ruled answer))
    pub again_like : (rule : Rule) (so_far : SoFar) (left : RwState) (s : State) → Come left s
        → FinishLike site pass round inner s require (further rule so_far)
        (begun_by require rule own_round (cut (own_round + 1) (next_by rule (rewritten_so so_far.substituted left))))
    pub over_like : (passed : Bool) (so_far : SoFar) (left : RwState) (s : State) → Come left s
        → Agrees site pass round inner so_far.decisions (plan_run (next (listed_so so_far (over passed))) s)
        (run (over_step (record { left = rewritten_so so_far.substituted left; passed = passed })) shown)

  abbrev WayOnce : Way Outcome Round → Type 0
  WayOnce way = (value : Round) → way ≡ goes_on value → RoundOnce value

  module _ (follows : Follows) (so_far : SoFar) (first : Run Outcome Round) (s : State) (left : SoFar)
      (decided : left.decisions ≡ so_far.decisions ++ decisions_in first.events) (named : s.slots Slot.Name ≡ name)
      (once : WayOnce first.way) where
    abbrev later : Run Ended Cut
    later = run_then (begun_in require first) (λ value. run (behind_round over_step cut own_round value) shown)

    abbrev Same : PlanRun Segment → Type 0
    Same plan = Agrees site pass round inner so_far.decisions plan later

    over_agrees : (passed : Bool) → StopsLike context shown own_round left s (over passed) first.way
        → Same (plan_run (next (listed_so left (over passed))) s)
    unfolding behind_round
    over_agrees passed is =
        on_goes site pass round inner require first (λ value. run (behind_round over_step cut own_round value) shown)
        so_far.decisions left.decisions _ (is_over_by passed (rewritten_so left.substituted is.0)) is.1 decided
        (follows.over_like passed left is.0 s
        (record {
          meets = is.2;
          once = once (is_over_by passed (rewritten_so left.substituted is.0)) is.1;
          file = named;
        }))

    abbrev next_at : Rule → RwState → NextRound
    next_at rule own = next_by rule (rewritten_so left.substituted own)

    abbrev way_at : Rule → RwState → Bool → Way Outcome Round
    way_at rule own late = if late then is_over (outcome.Limit Rounds) else goes_on (Again (next_at rule own))

    abbrev begun : Rule → RwState → Bool → Way Ended Cut
    begun rule own late =
        if late then is_over (with_tree require (outcome.Limit Rounds))
        else goes_on (cut (own_round + 1) (next_at rule own))

    bound_agrees : (rule : Rule) (own : RwState) (late : Bool) → first.way ≡ way_at rule own late
        → FinishLike site pass round inner s require (further rule left) (begun rule own late)
        → Same (ended s (finished_so require left.decisions (further rule left)))
    unfolding run behind_round
    bound_agrees rule own true is finish =
        on_over site pass round inner require first (λ value. run (behind_round over_step cut own_round value) shown)
        so_far.decisions (ended s (finished_so require left.decisions (further rule left))) (outcome.Limit Rounds) is
        (record { decided = decided; leads = finish })
    bound_agrees rule own false is finish =
        on_goes site pass round inner require first (λ value. run (behind_round over_step cut own_round value) shown)
        so_far.decisions left.decisions (ended s (finished_so require left.decisions (further rule left)))
        (Again (next_at rule own)) is decided
        (record { decided = sym (append-nil left.decisions); leads = finish })

    way_is : (rule : Rule) (own : RwState)
        → (run (begun_again rule own_round (rewritten_so left.substituted own)) shown).way
        ≡ way_at rule own (nat_le rule.flags.rounds own_round)
    unfolding run begun_again
    way_is rule own = by (nat_le rule.flags.rounds own_round)
      where
        by : (late : Bool)
            → (run (if late then ends (outcome.Limit Rounds) else leaves (Again (next_at rule own))) shown).way
            ≡ way_at rule own late
        by true = refl
        by false = refl

    again_agrees : (rule : Rule) → StopsLike context shown own_round left s (again rule) first.way
        → Same (plan_run (next (listed_so left (again rule))) s)
    unfolding plan_run
    again_agrees rule is =
        subst (λ plan. Same (plan_run plan s)) (sym (follows.is_again rule left))
        (by (nat_le rule.flags.rounds own_round) refl)
      where
        own : RwState
        own = record is.0 { vars = each_once is.0.vars }

        -- At the bound no state goes on, and the names of any that has these values may stand once.
        once_there : Come own s
        once_there = record {
          meets = record {
            text = is.2.text;
            query = is.2.query;
            info = is.2.info;
            end = is.2.end;
            path = is.2.path;
            method = is.2.method;
            request = is.2.request;
            variables = λ name. is.2.variables name ∙ same_values is.0.vars name;
            headers = is.2.headers;
            caller = is.2.caller;
          };
          once = each_is_once is.0.vars;
          file = named;
        }

        by : (late : Bool) → nat_le rule.flags.rounds own_round ≡ late
            → Same (ended s (finished_so require left.decisions (further rule left)))
        by true late =
            bound_agrees rule own (nat_le rule.flags.rounds own_round)
            (is.1 ∙ way_is rule is.0 ∙ ap (way_at rule is.0) late ∙ sym (ap (way_at rule own) late))
            (follows.again_like rule left own s once_there)
        by false late =
            bound_agrees rule is.0 (nat_le rule.flags.rounds own_round) (is.1 ∙ way_is rule is.0)
            (follows.again_like rule left is.0 s (record {
              meets = is.2;
              once = once (Again (next_at rule is.0)) (is.1 ∙ way_is rule is.0 ∙ ap (way_at rule is.0) late);
              file = named;
            }))

    answer_over : (answer : Then) (end : Outcome) → first.way ≡ is_over end
        → FinishLike site pass round inner s require (ruled answer) (is_over (with_tree require end))
        → Same (ended s (finished_so require left.decisions (ruled answer)))
    answer_over answer end is finish =
        on_over site pass round inner require first (λ value. run (behind_round over_step cut own_round value) shown)
        so_far.decisions (ended s (finished_so require left.decisions (ruled answer))) end is
        (record { decided = decided; leads = finish })

    answered_by : (answer : Then) → IsStop (answered answer)
        → StopsLike context shown own_round left s (answered answer) first.way
        → Same (ended s (finished_so require left.decisions (ruled answer)))
    answered_by on stop is = absurd stop
    answered_by (status number) stop is =
        answer_over (status number) (outcome.Status number) is (is_over (outcome.Status number), refl, refl)
    answered_by (redirect number front noescape) stop is =
        let sent_to = λ (first : List ℕ). outcome.Redirect number
        (location noescape front (s.slots Slot.Location) first (s.slots Slot.Query)) in
        answer_over (redirect number front noescape) (sent_to pass.first_query)
        (is ∙ ap (λ first. is_over (sent_to first)) same_first) (is_over (sent_to pass.first_query), refl, refl)
    answered_by (outside reason) stop is =
        answer_over (outside reason) (outcome.Outside reason) is (is_over (outcome.Outside reason), refl, refl)

    answered_agrees : (answer : Then) → IsStop (answered answer)
        → StopsLike context shown own_round left s (answered answer) first.way
        → Same (plan_run (next (listed_so left (answered answer))) s)
    unfolding plan_run
    answered_agrees answer stop is =
        subst (λ plan. Same (plan_run plan s)) (sym (follows.is_answered answer left)) (answered_by answer stop is)

    stop_agrees : (stop : Stop) → IsStop stop → StopsLike context shown own_round left s stop first.way
        → Same (plan_run (next (listed_so left stop)) s)
    stop_agrees (over passed) stop is = over_agrees passed is
    stop_agrees (again rule) stop is = again_agrees rule is
    stop_agrees (answered answer) stop is = answered_agrees answer stop is

  -- From what rules have come to before the round.
  pub round_agrees : Follows → (before : Rewritten) (so_far : SoFar) (s : State) → Come before.state s
      → so_far.substituted ≡ before.substituted
      → Agrees site pass round inner so_far.decisions
      (plan_run (and_then (list_plan frame 0 rules so_far) next) s)
      (run (one_round (with_tree require) site context rules over_step cut own_round before) shown)
  unfolding one_round
  round_agrees follows before so_far s come same =
      let step = from_place context looks own_round 0 rules before in
      let R : Relation Listed Round = λ s listed way decisions.
      ListLike context shown own_round so_far.decisions s listed way decisions
      × ((s.slots Slot.Name ≡ name) × Stops listed) × WayOnce way in
      subst (λ first. Agrees site pass round inner so_far.decisions first
      (run (one_round (with_tree require) site context rules over_step cut own_round before) shown))
      (sym (runs_in_turn next (list_plan frame 0 rules so_far) s))
      (agrees_then site pass round inner require step (behind_round over_step cut own_round) shown R so_far.decisions
      (plan_run (list_plan frame 0 rules so_far) s) (λ listed s. plan_run (next listed) s)
      (like_more (ListLike context shown own_round so_far.decisions) Stops WayOnce name
      (plan_run (list_plan frame 0 rules so_far) s) (run step shown)
      (list_like context looks shown own_round rules 0 before so_far s come.meets same)
      (subst (λ name. After Stops name (plan_run (list_plan frame 0 rules so_far) s)) come.file
      (list_keeps frame 0 rules so_far s))
      (λ value is.
      gives_run RoundOnce step (list_once context looks own_round 0 rules before come.once) shown value is))
      (λ s listed is.
      stop_agrees follows so_far (run step shown) s listed.left is.0.0 is.1.0 is.2 listed.stop is.1.1 is.0.1))
