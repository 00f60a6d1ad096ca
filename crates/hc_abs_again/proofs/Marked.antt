-- Whether a substitution was made in an earlier round is carried along, and decides nothing else in a directory's list.
use Rattle.hc_abs_again.proofs.Common.{◌≡◌, ◌∙◌, ℕ, zero, suc, List, [], ◌∷◌, Bool, true, false, ◌&&◌, ◌||◌}
use Rattle.hc_abs_again.proofs.Common.{Some, refl, sym, ap, subst, State, PlanRun, ended, too_long, left_out}
use Rattle.hc_abs_again.proofs.Common.{plan_then, plan_run, Plan, done, and_then, RwState, run, Shown, Site}
use Rattle.hc_abs_again.proofs.Common.{Here, Pass, Decision, Outcome, Run}
use Rattle.hc_model.specs.declared.rewrite.Rule.{Rule}
use Rattle.hc_model.specs.declared.section.Body.{Body}
use Rattle.hc_plan.proofs.Sequence.{runs_in_turn}
use Rattle.hc_plan.specs.Plan.{from_slot}
use Rattle.hc_plan.specs.Running.{renaming}
use Rattle.hc_rw_eval.specs.Lists.{skipped_chain, stops_run}
use Rattle.hc_rw_eval.specs.declared.attempt.Rewritten.{Rewritten}
use Rattle.hc_serve.specs.DirectoryRules.{context_in, engine_in, is_last}
use Rattle.hc_serve.specs.Passing.{finished_there}
unfoldable use Rattle.hc_serve.specs.Segments.{from_dir_round}
use Rattle.hc_serve.specs.Segments.{Cut, behind_dir_rules, behind_directory, dir_round}
use Rattle.hc_serve.specs.declared.stage.Ended.{Ended}
use Rattle.hc_abs_rw.specs.Attempts.{Attempted, attempt_plan}
use Rattle.hc_abs_rw.specs.Frames.{Frame}
use Rattle.hc_abs_rw.specs.Lists.{Listed, SoFar, Stop, after, again, answered, behind_plan, end_stored, flags_plan}
use Rattle.hc_abs_rw.specs.Lists.{over, setting_of, stopped as stopped_plan, unless_answered}
unfoldable use Rattle.hc_abs_rw.specs.Lists.{list_plan}
use Rattle.hc_abs_rw.specs.Standing.{Like}
use Rattle.hc_abs_rw.specs.Substitutions.{Then, goes_on as on, outside, redirect, status}
use Rattle.hc_abs_pass.specs.Ends.{MeetsHere}
use Rattle.hc_abs_pass.specs.Passing.{Ground, Segment, Settings, dir_left, finished_so, frame_by, left_plan}
use Rattle.hc_abs_pass.specs.Passing.{path_untied, ruled}
unfoldable use Rattle.hc_abs_pass.specs.Passing.{dir_round_plan}
use Rattle.hc_abs_pass.specs.Passing.{dir_round as in_dir_again}
use Rattle.hc_abs_segments.specs.Agreeing.{MeetsList, ground_of}
use Rattle.hc_abs_segments.proofs.Directory.{behind_agrees}
use Rattle.hc_abs_segments.proofs.Joining.{Agrees}
use Rattle.hc_abs_segments.proofs.Leaving.{StopLike, is_settled, ran_like, settled, stands_moved}
use Rattle.hc_abs_segments.proofs.Rounds.{Follows, round_agrees}
use Rattle.hc_abs_again.specs.Arriving.{finish_behind, marked}

abbrev pub segment_behind : Bool → Segment → Segment
segment_behind was segment = record segment { finish = finish_behind was segment.finish }

-- The run of a plan, whose segments are so.
abbrev pub run_behind : Bool → PlanRun Segment → PlanRun Segment
run_behind was first = plan_then first (λ segment s. ended s (segment_behind was segment))

-- ---- the list

abbrev pub listed_behind : Bool → Listed → Listed
listed_behind was listed = record { left = marked was listed.left; stop = listed.stop }

abbrev pub list_behind : Bool → PlanRun Listed → PlanRun Listed
list_behind was first = plan_then first (λ listed s. ended s (listed_behind was listed))

turned : (one was other : Bool) → (one || (was || other)) ≡ (was || (one || other))
turned true true other = refl
turned true false other = refl
turned false was other = refl

module _ (was : Bool) where
  after_marked : (so_far : SoFar) (attempted : Attempted)
      → after (marked was so_far) attempted ≡ marked was (after so_far attempted)
  after_marked so_far attempted = ap (λ own. record {
    decisions = attempted.decisions;
    substituted = own;
    replaced = (attempted.made).replaced || so_far.replaced;
  }) (turned (attempted.made).substituted was so_far.substituted)

  -- The one plan runs as the other does, and a substitution was made before it.
  abbrev RunsBehind : Plan Listed → Plan Listed → Type 0
  RunsBehind one other = (s : State) → plan_run one s ≡ list_behind was (plan_run other s)

  either_behind : (is : Bool) (one other one' other' : Plan Listed) → RunsBehind one one' → RunsBehind other other'
      → RunsBehind (elim is [ true ↦ one | false ↦ other ]) (elim is [ true ↦ one' | false ↦ other' ])
  either_behind true one other one' other' first rest = first
  either_behind false one other one' other' first rest = rest

  module _ (frame : Frame) where
    module _ (rule : Rule) (rules : List Rule) (further : ℕ → SoFar → Plan Listed)
        (each : (skipped : ℕ) (so_far : SoFar)
        → RunsBehind (further skipped (marked was so_far)) (further skipped so_far)) where
      stopped_behind : (end : Bool) (left : SoFar) (stop : Stop)
          → RunsBehind (end_stored end (stopped_plan (marked was left) stop)) (end_stored end (stopped_plan left stop))
      unfolding plan_run
      stopped_behind true left stop s = refl
      stopped_behind false left stop s = refl

      flags_behind : (left : SoFar)
          → RunsBehind (flags_plan further rule (marked was left)) (flags_plan further rule left)
      flags_behind left =
          either_behind (stops_run rule.flags) _ _ _ _
          (stopped_behind rule.flags.end left (over rule.flags.pass))
          (either_behind rule.flags.next _ _ _ _ (stopped_behind false left (again rule))
          (each rule.flags.skip left))

      unless_behind : (left : SoFar) (next : Then) (one other : Plan Listed) → RunsBehind one other
          → RunsBehind (unless_answered (marked was left) next one) (unless_answered left next other)
      unless_behind left on one other is = is
      unless_behind left (status number) one other is = stopped_behind false left (answered (status number))
      unless_behind left (redirect number front noescape) one other is =
          stopped_behind false left (answered (redirect number front noescape))
      unless_behind left (outside reason) one other is = stopped_behind false left (answered (outside reason))

      abbrev behind : SoFar → Attempted → Plan Listed
      behind so_far attempted = behind_plan further rule rules so_far attempted

      attempt_behind : (so_far : SoFar) (attempted : Attempted)
          → RunsBehind (behind (marked was so_far) attempted) (behind so_far attempted)
      attempt_behind so_far attempted =
          let left = after so_far attempted in
          subst (λ own. RunsBehind (unless_answered own (attempted.made).next (elim attempted.matched [
            | true ↦ flags_plan further rule own
            | false ↦ further (skipped_chain rule rules) own
          ])) (behind so_far attempted)) (sym (after_marked so_far attempted))
          (unless_behind left (attempted.made).next _ _
          (either_behind attempted.matched _ _ _ _ (flags_behind left) (each (skipped_chain rule rules) left)))

      rule_behind : (so_far : SoFar)
          → RunsBehind
          (and_then (attempt_plan frame rule (setting_of rules) so_far.decisions) (behind (marked was so_far)))
          (and_then (attempt_plan frame rule (setting_of rules) so_far.decisions) (behind so_far))
      rule_behind so_far s =
          let first = attempt_plan frame rule (setting_of rules) so_far.decisions in
          runs_in_turn (behind (marked was so_far)) first s ∙ by (plan_run first s)
          ∙ ap (list_behind was) (sym (runs_in_turn (behind so_far) first s))
        where
          by : (came : PlanRun Attempted)
              → plan_then came (λ attempted s. plan_run (behind (marked was so_far) attempted) s)
              ≡ list_behind was (plan_then came (λ attempted s. plan_run (behind so_far attempted) s))
          by (ended s attempted) = attempt_behind so_far attempted s
          by too_long = refl
          by left_out = refl

    pub list_runs : (skipped : ℕ) (rules : List Rule) (so_far : SoFar)
        → RunsBehind (list_plan frame skipped rules (marked was so_far)) (list_plan frame skipped rules so_far)
    unfolding plan_run list_plan
    list_runs skipped [] so_far s = refl
    list_runs (suc skipped) (rule ∷ rules) so_far s = list_runs skipped rules so_far s
    list_runs zero (rule ∷ rules) so_far s =
        rule_behind rule rules (λ skipped so_far. list_plan frame skipped rules so_far)
        (λ skipped so_far. list_runs skipped rules so_far) so_far s

-- ---- in a directory

module _ (site : Site) (here : Here) (dir : List ℕ) (is_dir : here.force.dir ≡ Some dir) (shown : Shown) (last : Bool)
    (last_is : is_last site here ≡ last) (levels : ℕ) (merges : Body → Bool) (names : List ℕ → Bool)
    (settings : Settings) (round : ℕ) (was : Bool) where
  abbrev ground : Ground
  ground = ground_of site last shown levels merges names

  abbrev own : Settings
  own = settled site here shown settings

  abbrev pass : Pass
  pass = here.named.pass

  abbrev Same : List Decision → PlanRun Segment → Run Ended Cut → Type 0
  Same so_far first steps = Agrees site pass 1 round so_far first steps

  module _ (left : RwState) (so_far : List Decision) where
    abbrev plan : Bool → Plan Segment
    plan untied = path_untied ground untied (left_plan ground own so_far true)

    untied_like : (untied : Bool) (s : State) → MeetsHere site here left s
        → Like (StopLike site here shown so_far) (plan_run (plan untied) s)
        (run (finished_there site here (Some left)) shown)
    unfolding plan_run
    untied_like true s meets =
        ran_like site here shown last last_is levels merges names settings left so_far (renaming s from_slot)
        (stands_moved site here left s (renaming s from_slot) refl refl meets)
    untied_like false s meets = ran_like site here shown last last_is levels merges names settings left so_far s meets

    -- What stops there is no further round.
    stops_behind : (first : PlanRun Segment) (later : Run Outcome Pass)
        → Like (StopLike site here shown so_far) first later
        → Like (StopLike site here shown so_far) (run_behind was first) later
    stops_behind (ended s segment) later is = (is.0, ap (segment_behind was) is.1, is.2)
    stops_behind too_long later is = is
    stops_behind left_out later is = is

    over_agrees : (untied : Bool) (s : State) → MeetsHere site here left s
        → Same so_far (plan_run (and_then (plan untied) (λ segment. done (segment_behind was segment))) s)
        (run (behind_directory site here (Some left)) shown)
    unfolding plan_run
    over_agrees untied s meets =
        behind_agrees site here shown pass 1 round so_far _ (Some left)
        (subst (λ first. Like (StopLike site here shown so_far) first
        (run (finished_there site here (Some left)) shown))
        (sym (runs_in_turn (λ segment. done (segment_behind was segment)) (plan untied) s))
        (stops_behind (plan_run (plan untied) s) (run (finished_there site here (Some left)) shown)
        (untied_like untied s meets)))

  -- Behind the list, by whether the path is tied no more.
  abbrev next_so : Bool → Listed → Plan Segment
  next_so untied listed = elim listed.stop [
    | over passed ↦
        and_then (path_untied ground untied (left_plan ground own (listed.left).decisions true))
        (λ segment. done (segment_behind was segment))
    | again rule ↦
        done (finished_so own.force.require (listed.left).decisions (in_dir_again own rule listed.left))
    | answered next ↦ done (finished_so own.force.require (listed.left).decisions (ruled next))
  ]

  abbrev FollowsSo : Bool → Type 0
  FollowsSo untied = Follows site pass 1 round here.force.require (context_in site here dir) refl here.force.rules round
      (behind_dir_rules site here) (dir_round here dir) shown here.walk.name (next_so untied) (in_dir_again own)

  follows : (untied : Bool) → FollowsSo untied
  follows untied = record {
    is_again = λ rule so_far. refl;
    is_answered = λ answer so_far. refl;
    again_like = λ rule so_far left s come. (
      here,
      dir,
      left,
      is_settled site here shown settings,
      is_dir,
      record { meets = come.meets; name = come.file; once = come.once },
      refl,
    );
    over_like = λ passed so_far left s come. over_agrees left so_far.decisions untied s (record {
      meets = record {
        text = come.meets.text;
        query = come.meets.query;
        info = come.meets.info;
        end = come.meets.end;
        path = come.meets.path;
        method = come.meets.method;
        request = come.meets.request;
        variables = come.meets.variables;
        headers = come.meets.headers;
        caller = come.meets.caller;
      };
      name = come.file;
      once = come.once;
    });
  }

  module _ (so_far : SoFar) (steps : Run Ended Cut) where
    abbrev Whole : (Bool → PlanRun Segment) → Type 0
    Whole each = (untied : Bool) → Same so_far.decisions (each untied) steps

    stop_agrees : (s : State) (left : SoFar) (stop : Stop)
        → Whole (λ untied. plan_run (next_so untied (record { left = marked was left; stop = stop })) s)
        → Same so_far.decisions
        (run_behind was (plan_run (dir_left ground own (record { left = left; stop = stop })) s)) steps
    unfolding plan_run
    stop_agrees s left (over passed) each =
        let plan = path_untied ground (passed && left.substituted) (left_plan ground own left.decisions true) in
        subst (λ first. Same so_far.decisions first steps)
        (runs_in_turn (λ segment. done (segment_behind was segment)) plan s) (each (passed && left.substituted))
    stop_agrees s left (again rule) each = each false
    stop_agrees s left (answered next) each = each false

    came_agrees : (came : PlanRun Listed)
        → Whole (λ untied. plan_then (list_behind was came) (λ listed s. plan_run (next_so untied listed) s))
        → Same so_far.decisions
        (run_behind was (plan_then came (λ listed s. plan_run (dir_left ground own listed) s))) steps
    came_agrees (ended s listed) each = stop_agrees s listed.left listed.stop each
    came_agrees too_long each = each false
    came_agrees left_out each = each false

  pub round_behind : (before : Rewritten) (so_far : SoFar) (s : State) → MeetsList site here dir before.state s
      → (was || so_far.substituted) ≡ before.substituted
      → Same so_far.decisions (run_behind was (plan_run (dir_round_plan ground own (engine_in here dir) so_far) s))
      (run (from_dir_round site here dir round before) shown)
  unfolding dir_round_plan from_dir_round
  round_behind before so_far s meets same =
      let frame = frame_by ground (Some (engine_in here dir)) in
      let list = λ (so_far : SoFar). list_plan frame 0 here.force.rules so_far in
      let steps = run (from_dir_round site here dir round before) shown in
      subst (λ first. Same so_far.decisions (run_behind was first) steps)
      (sym (runs_in_turn (dir_left ground own) (list so_far) s))
      (came_agrees so_far steps (plan_run (list so_far) s) (λ untied.
      subst (λ first. Same so_far.decisions first steps)
      (runs_in_turn (next_so untied) (list (marked was so_far)) s
      ∙ ap (λ first. plan_then first (λ listed s. plan_run (next_so untied listed) s))
      (list_runs was frame 0 here.force.rules so_far s))
      (round_agrees site pass 1 round here.force.require (context_in site here dir) refl here.force.rules round
      (behind_dir_rules site here) (dir_round here dir) shown here.walk.name (next_so untied) (in_dir_again own)
      (follows untied) before (marked was so_far) s
      (record { meets = meets.meets; once = meets.once; file = meets.name }) same)))
