-- From a round of the server's list on, and from the start of a pass.
use Rattle.hc_abs_segments.proofs.Common.{◌≡◌, ◌∙◌, ℕ, List, [], ◌++◌, Bool, true, false, if◌then◌else◌}
use Rattle.hc_abs_segments.proofs.Common.{None, refl, sym, ap, subst, append-nil, State, PlanRun, ended}
use Rattle.hc_abs_segments.proofs.Common.{plan_run, plan_then, Plan, Slot, Decision, Outcome}
use Rattle.hc_abs_segments.proofs.Common.{Run, goes_on, is_over, run_then, run, Shown, Step}
use Rattle.hc_abs_segments.proofs.Common.{◌>>=◌, ending, Meets, decisions_in, rewritten_so}
use Rattle.hc_model.specs.declared.event.Event.TheVariants as event
use Rattle.hc_model.specs.declared.outcome.Outcome.TheVariants as outcome
use Rattle.hc_model.specs.declared.section.Body.{Body}
use Rattle.hc_plan.proofs.Sequence.{runs_in_turn}
use Rattle.hc_rw_eval.specs.Lists.{begun}
use Rattle.hc_rw_eval.specs.declared.attempt.Rewritten.{Rewritten}
use Rattle.hc_rw_eval.specs.declared.run.Finished.{Finished}
unfoldable use Rattle.hc_serve.specs.Passing.{finished, reached_from, told_pass}
use Rattle.hc_serve.specs.Passing.{in_force, merged, name_of, walked, with_tree}
unfoldable use Rattle.hc_serve.specs.Segments.{behind_server, behind_server_rules, from_pass}
unfoldable use Rattle.hc_serve.specs.Segments.{from_server_round, in_server}
unfoldable use Rattle.hc_serve.specs.Segments.{segment}
use Rattle.hc_serve.specs.Segments.{Cut, behind_sections, server_round}
use Rattle.hc_serve.specs.ServerRules.{context_at, engine_at, rules_at, state_at}
use Rattle.hc_serve.specs.Site.{Site}
use Rattle.hc_serve.specs.declared.stage.Ended.{Ended}
use Rattle.hc_serve.specs.declared.stage.Here.{Here}
use Rattle.hc_serve.specs.declared.stage.Named.{Named}
use Rattle.hc_serve.specs.declared.stage.Pass.{Pass}
use Rattle.hc_serve.specs.declared.stage.Placed.TheVariants as placed
use Rattle.hc_vhost.specs.Servers.{servers_of}
use Rattle.hc_abs_rw.specs.Lists.{SoFar}
use Rattle.hc_abs_pass.specs.Ends.{AreOnce, Ends, Left, MeetsPass, found, limit}
use Rattle.hc_abs_pass.specs.Ends.{next_pass, outside, refused, sent, status}
use Rattle.hc_abs_pass.specs.Mapping.{Placing, named as named_so, over as over_so}
use Rattle.hc_abs_pass.specs.Naming.{NamedLike, placed_plan}
use Rattle.hc_abs_pass.specs.Passing.{Ground, Segment, begun_with, ends_so, name_plan, placed_from, server_left}
unfoldable use Rattle.hc_abs_pass.specs.Passing.{pass_plan, server_round_plan}
use Rattle.hc_abs_pass.specs.Passing.{server_round as in_server_again}
use Rattle.hc_abs_pass.proofs.Naming.{naming_agrees}
use Rattle.hc_abs_segments.specs.Agreeing.{IsGround, PassAgrees, ServerRoundAgrees, ground_of, is_last_pass}
use Rattle.hc_abs_segments.proofs.Arriving.{named_like}
use Rattle.hc_abs_segments.proofs.Joining.{Agrees, agrees_saying, agrees_then, begun_in, on_goes}
use Rattle.hc_abs_segments.proofs.Joining.{on_over, over_at, parted}
use Rattle.hc_abs_segments.proofs.Names.{IsNamed, naming_gives}
use Rattle.hc_abs_segments.proofs.Once.{gives_run}
use Rattle.hc_abs_segments.proofs.Reaching.{ends_agree}
use Rattle.hc_abs_segments.proofs.Rounds.{round_agrees}

module _ (site : Site) (pass : Pass) (shown : Shown) (levels : ℕ) (merges : Body → Bool) (names : List ℕ → Bool)
    (is_ground : IsGround site shown levels merges) (round : ℕ) where
  abbrev ground : Ground
  ground = ground_of site (is_last_pass site pass) shown levels merges names

  abbrev Same : List Decision → PlanRun Segment → Step Ended Cut → Type 0
  Same so_far first step = Agrees site pass round 1 so_far first (run step shown)

  -- ---- behind the rules of the server

  abbrev reached_there : Named → Step Outcome Here
  reached_there named = merged named >>= λ named. walked named >>= λ there. in_force site there

  abbrev from_name : Named → Step Ended Cut
  from_name named = ending (with_tree None) (reached_there named) >>= behind_sections site

  named_first : (finished_run : Finished)
      → behind_server_rules site pass finished_run
      ≡ ending (with_tree None) (finished site pass finished_run >>= name_of site) >>= from_name
  unfolding behind_server_rules behind_server reached_from
  named_first finished_run =
      let first = finished site pass finished_run in
      (λ i. ending (with_tree None) first
      >>= λ placed. parted (with_tree None) (name_of site placed) reached_there (behind_sections site) i)
      ∙ sym (parted (with_tree None) first (name_of site) from_name)

  module _ (so_far : List Decision) (before : Run Outcome Named) (s : State)
      (each : (next : Named) → before.way ≡ goes_on next → IsNamed pass next) where
    abbrev later : Run Ended Cut
    later = run_then (begun_in None before) (λ named. run (from_name named) shown)

    ended_here : (left : Left) (own : Outcome) → decisions_in before.events ≡ [] → before.way ≡ is_over own
        → Ends site s left (is_over own)
        → Agrees site pass round 1 so_far (ended s (ends_so None so_far left)) later
    ended_here left own none is end =
        on_over site pass round 1 None before (λ named. run (from_name named) shown) so_far
        (ended s (ends_so None so_far left)) own is
        (ends_agree site pass round 1 None so_far s left (is_over own) (over_at before (with_tree None own)) end refl
        none)

    placing_agrees : (placing : Placing) → NamedLike site s placing before.way (decisions_in before.events)
        → Agrees site pass round 1 so_far (plan_run (name_plan ground so_far placing) s) later
    unfolding plan_run
    placing_agrees (named_so aliased) is =
        on_goes site pass round 1 None before (λ named. run (from_name named) shown) so_far so_far
        (plan_run (name_plan ground so_far (named_so aliased)) s) is.1 is.2
        (sym (ap (λ own. so_far ++ own) is.0 ∙ append-nil so_far))
        (named_like site pass round shown levels merges names is_ground so_far is.1 (each is.1 is.2) aliased is.4 s is.5
        is.3)
    placing_agrees (over_so (status number)) is = ended_here (status number) (outcome.Status number) is.0 is.1 refl
    placing_agrees (over_so (outside reason)) is = ended_here (outside reason) (outcome.Outside reason) is.0 is.1 refl
    placing_agrees (over_so (sent redirect)) is = ended_here (sent redirect) is.1 is.0 is.2 (is.1, refl, is.3)
    placing_agrees (over_so (found kind)) is = absurd is
    placing_agrees (over_so (refused refusal)) is = absurd is
    placing_agrees (over_so (limit kind)) is = absurd is
    placing_agrees (over_so next_pass) is = absurd is

  -- The name, and what follows it.
  placed_agrees : (finished_run : Finished) (so_far : List Decision) (s : State)
      → Meets (context_at site pass) finished_run.left.state s → AreOnce finished_run.left.state.vars
      → Same so_far
      (plan_run (placed_from ground so_far finished_run.left.substituted finished_run.passed) s)
      (behind_server_rules site pass finished_run)
  placed_agrees finished_run so_far s meets once =
      let plan = placed_plan shown (servers_of site.config site.host) finished_run.left.substituted
      finished_run.passed in
      let step = finished site pass finished_run >>= name_of site in
      subst (λ first. Same so_far first (behind_server_rules site pass finished_run))
      (sym (runs_in_turn (name_plan ground so_far) plan s))
      (subst (Same so_far (plan_then (plan_run plan s) (λ placing s. plan_run (name_plan ground so_far placing) s)))
      (sym (named_first finished_run))
      (agrees_then site pass round 1 None step from_name shown (NamedLike site) so_far (plan_run plan s)
      (λ placing s. plan_run (name_plan ground so_far placing) s) (naming_agrees site pass finished_run shown s meets)
      (λ s placing is.
      placing_agrees so_far (run step shown) s
      (λ next way.
      gives_run (IsNamed pass) step
      (naming_gives site pass is_ground.rooted is_ground.aliased finished_run once) shown next way) placing is)))

  -- ---- a round

  pub server_round_like : (before : Rewritten) (so_far : SoFar) (s : State)
      → Meets (context_at site pass) before.state s → AreOnce before.state.vars
      → so_far.substituted ≡ before.substituted
      → Same so_far.decisions (plan_run (server_round_plan ground so_far) s) (from_server_round site pass round before)
  unfolding server_round_plan from_server_round
  server_round_like before so_far s meets once same =
      round_agrees site pass round 1 None (context_at site pass) refl (rules_at site) round
      (behind_server_rules site pass) (server_round pass) shown (s.slots Slot.Name) (server_left ground) in_server_again
      (record {
        is_again = λ rule so_far. refl;
        is_answered = λ answer so_far. refl;
        again_like = λ rule so_far left s come. (left, come.meets, come.once, refl);
        over_like = λ passed so_far left s come.
            placed_agrees (record { left = rewritten_so so_far.substituted left; passed = passed }) so_far.decisions s
            come.meets come.once;
      }) before so_far s (record { meets = meets; once = once; file = refl }) same

  -- ---- a pass

  abbrev by_engine : Bool → Plan Segment
  by_engine engine = elim engine [
    | true ↦ server_round_plan ground (begun_with [] false)
    | false ↦ placed_from ground [] false false
  ]

  -- Without rules.
  off : (s : State) → MeetsPass site pass s → AreOnce pass.vars
      → Same [] (plan_run (placed_from ground [] false false) s) (behind_server site (placed.Unnamed pass))
  unfolding behind_server_rules finished ending ◌>>=◌
  off s meets once =
      placed_agrees (record { left = begun (state_at pass); passed = false }) [] s meets once

pub server_round_agrees : ServerRoundAgrees
unfolding segment
server_round_agrees site pass round rule left so_far shown levels merges names state is_ground meets once =
    server_round_like site pass shown levels merges names is_ground round (rewritten_so so_far.substituted left) so_far
    state meets once refl

pub pass_agrees : PassAgrees
unfolding segment from_pass told_pass in_server pass_plan ending ◌>>=◌ run
pass_agrees site pass require shown levels merges names state is_ground meets once =
    agrees_saying site pass 1 1 [] (event.Pass pass.number pass.path pass.query)
    (plan_run (pass_plan (ground_of site (is_last_pass site pass) shown levels merges names)) state)
    (run (in_server site pass) shown) refl (by (engine_at site))
  where
    by : (engine : Bool)
        → Agrees site pass 1 1 [] (plan_run (by_engine site pass shown levels merges names is_ground 1 engine) state)
        (run (if engine then from_server_round site pass 1 (begun (state_at pass))
        else behind_server site (placed.Unnamed pass)) shown)
    by true =
        server_round_like site pass shown levels merges names is_ground 1 (begun (state_at pass)) (begun_with [] false)
        state meets once refl
    by false = off site pass shown levels merges names is_ground 1 state meets once
