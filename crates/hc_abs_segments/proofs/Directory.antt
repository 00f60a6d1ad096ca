-- From a round of a directory's list on.
use Rattle.hc_abs_segments.proofs.Common.{◌≡◌, ◌∙◌, ℕ, List, ◌++◌, Bool, true, false, ◌&&◌}
use Rattle.hc_abs_segments.proofs.Common.{Option, Some, refl, sym, ap, subst, append-nil, State, PlanRun}
use Rattle.hc_abs_segments.proofs.Common.{plan_run, Plan, Decision, Outcome, RwState, Way}
use Rattle.hc_abs_segments.proofs.Common.{run, Shown, Like, rewritten_so}
use Rattle.hc_model.specs.declared.section.Body.{Body}
use Rattle.hc_plan.specs.Running.{renaming}
use Rattle.hc_plan.specs.Plan.{from_slot}
use Rattle.hc_rw_eval.specs.declared.attempt.Rewritten.{Rewritten}
use Rattle.hc_serve.specs.DirectoryRules.{context_in, engine_in, is_last}
use Rattle.hc_serve.specs.Passing.{finished_there}
unfoldable use Rattle.hc_serve.specs.Segments.{behind_directory, from_dir_round, segment}
use Rattle.hc_serve.specs.Segments.{behind_dir_rules, dir_round}
use Rattle.hc_serve.specs.Site.{Site}
use Rattle.hc_serve.specs.declared.stage.Here.{Here}
use Rattle.hc_serve.specs.declared.stage.Pass.{Pass}
use Rattle.hc_abs_rw.specs.Lists.{SoFar}
use Rattle.hc_abs_pass.specs.Ends.{MeetsHere}
use Rattle.hc_abs_pass.specs.Passing.{Ground, Segment, Settings, dir_left, left_plan, path_untied}
unfoldable use Rattle.hc_abs_pass.specs.Passing.{dir_round_plan}
use Rattle.hc_abs_pass.specs.Passing.{dir_round as in_dir_again}
use Rattle.hc_abs_segments.specs.Agreeing.{DirRoundAgrees, MeetsList, SegmentLike, ground_of, is_last_pass}
use Rattle.hc_abs_segments.specs.Agreeing.{led}
use Rattle.hc_abs_segments.proofs.Joining.{Agrees, agrees_led}
use Rattle.hc_abs_segments.proofs.Leaving.{StopLike, as_settled, is_settled, ran_like, settled}
use Rattle.hc_abs_segments.proofs.Rounds.{Come, Follows, round_agrees}

-- A pass that ends is a segment that ends.
pub stop_agrees : (site : Site) (here : Here) (shown : Shown) (pass : Pass) (round inner : ℕ) (so_far : List Decision)
    (s : State) (segment : Segment) (way : Way Outcome Pass) (decisions : List Decision)
    → StopLike site here shown so_far s segment way decisions
    → SegmentLike site pass round inner so_far s segment (led here.force.require way) decisions
stop_agrees site here shown pass round inner so_far s segment way decisions is =
    subst (λ segment. SegmentLike site pass round inner so_far s segment (led here.force.require way) decisions)
    (sym is.1) (record {
      decided = sym (append-nil so_far) ∙ ap (λ own. so_far ++ own) (sym is.2.0);
      leads = (way, is.2.1, refl);
    })

-- What follows rules, or none, is a segment's end.
pub behind_agrees : (site : Site) (here : Here) (shown : Shown) (pass : Pass) (round inner : ℕ) (so_far : List Decision)
    (first : PlanRun Segment) (left : Option RwState)
    → Like (StopLike site here shown so_far) first (run (finished_there site here left) shown)
    → Agrees site pass round inner so_far first (run (behind_directory site here left) shown)
unfolding behind_directory
behind_agrees site here shown pass round inner so_far first left is =
    agrees_led site pass round inner here.force.require (StopLike site here shown so_far) so_far
    (stop_agrees site here shown pass round inner so_far) first (finished_there site here left) shown is

module _ (site : Site) (here : Here) (dir : List ℕ) (is_dir : here.force.dir ≡ Some dir) (shown : Shown) (pass : Pass)
    (same_first : here.named.pass.first_query ≡ pass.first_query) (last : Bool) (last_is : is_last site here ≡ last)
    (levels : ℕ) (merges : Body → Bool) (names : List ℕ → Bool) (settings : Settings) (round own_round : ℕ) where
  abbrev ground : Ground
  ground = ground_of site last shown levels merges names

  abbrev own : Settings
  own = settled site here shown settings

  untied : (is : Bool) (plan : Plan Segment) (left : RwState) (so_far : List Decision) (s : State)
      → ((s : State) → MeetsHere site here left s
      → Agrees site pass round own_round so_far (plan_run plan s) (run (behind_directory site here (Some left)) shown))
      → MeetsHere site here left s
      → Agrees site pass round own_round so_far (plan_run (path_untied ground is plan) s)
      (run (behind_directory site here (Some left)) shown)
  unfolding plan_run
  untied false plan left so_far s each meets = each s meets
  untied true plan left so_far s each meets = each (renaming s from_slot) (record {
    meets = record {
      text = meets.meets.text;
      query = meets.meets.query;
      info = meets.meets.info;
      end = meets.meets.end;
      path = meets.meets.path;
      method = meets.meets.method;
      request = meets.meets.request;
      variables = meets.meets.variables;
      headers = meets.meets.headers;
      caller = meets.meets.caller;
    };
    name = meets.name;
    once = meets.once;
  })

  abbrev ComeHere : RwState → State → Type 0
  ComeHere left s =
      Come site pass round own_round here.force.require (context_in site here dir) same_first here.force.rules own_round
      (behind_dir_rules site here) (dir_round here dir) shown here.walk.name (dir_left ground own) (in_dir_again own)
      left s

  here_met : (left : RwState) (s : State) → ComeHere left s → MeetsHere site here left s
  here_met left s come = record {
    meets = record {
      text = come.meets.text;
      query = come.meets.query;
      info = come.meets.info;
      end = come.meets.end;
      path = come.meets.path;
      method = come.meets.method;
      request = come.meets.request;
      variables = come.meets.variables;
      headers = come.meets.headers;
      caller = come.meets.caller;
    };
    name = come.file;
    once = come.once;
  }

  follows : Follows site pass round own_round here.force.require (context_in site here dir) same_first here.force.rules
      own_round (behind_dir_rules site here) (dir_round here dir) shown here.walk.name (dir_left ground own)
      (in_dir_again own)
  follows = record {
    is_again = λ rule so_far. refl;
    is_answered = λ answer so_far. refl;
    again_like = λ rule so_far left s come. (
      here,
      dir,
      left,
      is_settled site here shown settings,
      is_dir,
      record { meets = come.meets; name = come.file; once = come.once },
      refl,
    );
    over_like = λ passed so_far left s come.
        untied (passed && so_far.substituted) (left_plan ground own so_far.decisions true) left so_far.decisions s
        (λ s meets.
        behind_agrees site here shown pass round own_round so_far.decisions _ (Some left)
        (ran_like site here shown last last_is levels merges names settings left so_far.decisions s meets))
        (here_met left s come);
  }

  pub dir_round_like : (before : Rewritten) (so_far : SoFar) (s : State) → MeetsList site here dir before.state s
      → so_far.substituted ≡ before.substituted
      → Agrees site pass round own_round so_far.decisions
      (plan_run (dir_round_plan ground own (engine_in here dir) so_far) s)
      (run (from_dir_round site here dir own_round before) shown)
  unfolding dir_round_plan from_dir_round
  dir_round_like before so_far s meets same =
      round_agrees site pass round own_round here.force.require (context_in site here dir) same_first here.force.rules
      own_round (behind_dir_rules site here) (dir_round here dir) shown here.walk.name (dir_left ground own)
      (in_dir_again own) follows before so_far s
      (record { meets = meets.meets; once = meets.once; file = meets.name }) same

pub dir_round_agrees : DirRoundAgrees
unfolding segment
dir_round_agrees site here dir settings round rule left so_far shown levels merges names state settles is_dir meets =
    subst (λ settings. Agrees site here.named.pass 1 round so_far.decisions
    (plan_run (dir_round_plan (ground_of site (is_last_pass site here.named.pass) shown levels merges names) settings
    (engine_in here dir) so_far) state)
    (run (from_dir_round site here dir round (rewritten_so so_far.substituted left)) shown))
    (sym (as_settled site here shown settings settles))
    (dir_round_like site here dir is_dir shown here.named.pass refl (is_last_pass site here.named.pass) refl levels
    merges names settings 1 round (rewritten_so so_far.substituted left) so_far state meets refl)
