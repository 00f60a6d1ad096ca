-- Where a request stands in a tree.
use Rattle.std.proofs.Common.{◌≡◌, ◌∙◌, ℕ, List, [], Bool, Some, sym, ap, ap₂, subst}
use Rattle.hc_plan.specs.Running.{State, run as plan_run}
use Rattle.hc_model.specs.declared.event.Decision.{Decision}
use Rattle.hc_model.specs.declared.rewrite.Rule.{Rule}
use Rattle.hc_rw_eval.specs.Lists.{next_by}
use Rattle.hc_rw_eval.specs.declared.run.NextRound.{NextRound}
use Rattle.hc_rw_expand.specs.declared.state.RwState.{RwState}
use Rattle.hc_serve.specs.DirectoryRules.{engine_in}
use Rattle.hc_serve.specs.Segments.{Cut, at_pass, dir_round, segment, server_round}
use Rattle.hc_serve.specs.ServerRules.{context_at}
use Rattle.hc_serve.specs.Site.{Site}
use Rattle.hc_serve.specs.declared.stage.Here.{Here}
use Rattle.hc_serve.specs.declared.stage.Pass.{Pass}
use Rattle.hc_serve.specs.declared.stage.Ended.{Ended}
use Rattle.hc_steps.specs.Run.{Run, run}
use Rattle.hc_abs_rw.specs.Lists.{SoFar}
use Rattle.hc_abs_rw.specs.Standing.{Meets, rewritten_so}
use Rattle.hc_abs_pass.specs.Ends.{AreOnce, MeetsPass}
use Rattle.hc_abs_pass.specs.Passing.{Ground, Settings, dir_round_plan, engine_by, pass_plan, server_round_plan}
use Rattle.hc_abs_segments.specs.Agreeing.{IsGround, LikeSegment, MeetsList, SegmentLike, SettlesHere, ground_of}
use Rattle.hc_abs_segments.specs.Agreeing.{is_last_pass}
use Rattle.hc_abs_segments.specs.Counting.{pass_at}
use Rattle.hc_abs_segments.proofs.Directory.{dir_round_agrees}
use Rattle.hc_abs_segments.proofs.Server.{pass_agrees, server_round_agrees}
use Rattle.hc_abs_tree.specs.Trees.{At, Soil, common_site, dir_plan, directory, directory_at, ground_at, is_last_number}
use Rattle.hc_abs_tree.specs.Trees.{number_of, pass, plan_at, server, server_at}

-- A round goes on by what its rules have come to.
pub record Resumed (so_far : SoFar) (left : RwState) (next : NextRound) : Type 0 where
  pub rule : Rule
  pub same : next ≡ next_by rule (rewritten_so so_far.substituted left)

-- The request stands at the cut, with a state as the laws of its segment ask for it.
abbrev pub MeetsCut : Site → At → Cut → State → Type 0
MeetsCut site (pass number) (at_pass left) s =
    (left.pass.number ≡ number) × MeetsPass site left.pass s × AreOnce left.pass.vars
MeetsCut site (server number round so_far) (server_round own at next) s =
    (own.number ≡ number) × (at ≡ round) × (left : RwState) × Resumed so_far left next
    × Meets (context_at site own) left s × AreOnce left.vars
MeetsCut site (directory number round settings so_far) (dir_round here dir at next) s =
    (here.named.pass.number ≡ number) × (at ≡ round) × (left : RwState) × Resumed so_far left next
    × SettlesHere settings here × (here.force.dir ≡ Some dir) × MeetsList site here dir left s
MeetsCut site at cut s = ⊥

-- What was decided in the pass.
abbrev pub decided_at : At → List Decision
decided_at (pass number) = []
decided_at (server number round so_far) = so_far.decisions
decided_at (directory number round settings so_far) = so_far.decisions

module _ (soil : Soil) (site : Site) (same : common_site soil.site ≡ common_site site)
    (is_ground : IsGround site soil.shown soil.levels soil.merges) where
  abbrev ground_by : Bool → Site → Ground
  ground_by last common = record {
    site = common;
    last = last;
    shown = soil.shown;
    levels = soil.levels;
    merges = soil.merges;
    names = soil.names;
  }

  -- The ground of this pass is that of its number.
  ground_is : (number : ℕ) (own : Pass) → own.number ≡ number
      → ground_of site (is_last_pass site own) soil.shown soil.levels soil.merges soil.names ≡ ground_at soil number
  ground_is number own is =
      ap (λ number. ground_by (is_last_number site number) (common_site site)) is
      ∙ ap (λ common. ground_by (is_last_number common number) common) (sym same)

  abbrev own_ground : Pass → Ground
  own_ground own = ground_of site (is_last_pass site own) soil.shown soil.levels soil.merges soil.names

  -- The step of this segment.
  abbrev run_at : Cut → Run Ended Cut
  run_at cut = run (segment site cut) soil.shown

  engine_is : (settings : Settings) (here : Here) (dir : List ℕ) → SettlesHere settings here → (ground : Ground)
      → engine_in here dir ≡ engine_by ground settings dir
  engine_is settings here dir settles ground =
      ap₂ (λ base aliased. record { dir = dir; base = base; aliased = aliased }) (sym settles.force.base)
      (sym settles.aliased)

  -- The plan that begins there agrees with the segment.
  pub plan_agrees : (at : At) (cut : Cut) (s : State) → MeetsCut site at cut s
      → LikeSegment (SegmentLike site (pass_at cut) (server_at at) (directory_at at) (decided_at at))
      (plan_run (plan_at soil at) s) (run_at cut)
  plan_agrees (pass number) (at_pass left) s is =
      subst (λ ground. LikeSegment (SegmentLike site left.pass 1 1 []) (plan_run (pass_plan ground) s)
      (run_at (at_pass left))) (ground_is number left.pass is.0)
      (pass_agrees site left.pass left.require soil.shown soil.levels soil.merges soil.names s is_ground is.1 is.2)
  plan_agrees (server number round so_far) (server_round own at next) s is =
      let left = is.2 in
      let resumed = is.3 in
      let R = SegmentLike site own round 1 so_far.decisions in
      subst (λ cut. LikeSegment R (plan_run (server_round_plan (ground_at soil number) so_far) s)
      (run_at cut)) (ap₂ (server_round own) (sym is.1) (sym resumed.same))
      (subst (λ ground. LikeSegment R (plan_run (server_round_plan ground so_far) s)
      (run_at (server_round own round (next_by resumed.rule (rewritten_so so_far.substituted left)))))
      (ground_is number own is.0)
      (server_round_agrees site own round resumed.rule left so_far soil.shown soil.levels soil.merges soil.names s
      is_ground is.4 is.5))
  plan_agrees (directory number round settings so_far) (dir_round here dir at next) s is =
      let left = is.2 in
      let resumed = is.3 in
      let settles = is.4 in
      let R = SegmentLike site here.named.pass 1 round so_far.decisions in
      subst (λ cut. LikeSegment R (plan_run (dir_plan (ground_at soil number) settings so_far settings.force.dir) s)
      (run_at cut)) (ap₂ (dir_round here dir) (sym is.1) (sym resumed.same))
      (subst (λ found. LikeSegment R (plan_run (dir_plan (ground_at soil number) settings so_far found) s)
      (run_at (dir_round here dir round (next_by resumed.rule (rewritten_so so_far.substituted left)))))
      (sym (settles.force.dir ∙ is.5))
      (subst (λ engine. LikeSegment R (plan_run (dir_round_plan (ground_at soil number) settings engine so_far) s)
      (run_at (dir_round here dir round (next_by resumed.rule (rewritten_so so_far.substituted left)))))
      (engine_is settings here dir settles (ground_at soil number))
      (subst (λ ground. LikeSegment R (plan_run (dir_round_plan ground settings (engine_in here dir) so_far) s)
      (run_at (dir_round here dir round (next_by resumed.rule (rewritten_so so_far.substituted left)))))
      (ground_is number here.named.pass is.0)
      (dir_round_agrees site here dir settings round resumed.rule left so_far soil.shown soil.levels soil.merges
      soil.names s settles is.5 is.6))))
  plan_agrees (pass number) (server_round own at next) s is = absurd is
  plan_agrees (pass number) (dir_round here dir at next) s is = absurd is
  plan_agrees (server number round so_far) (at_pass left) s is = absurd is
  plan_agrees (server number round so_far) (dir_round here dir at next) s is = absurd is
  plan_agrees (directory number round settings so_far) (at_pass left) s is = absurd is
  plan_agrees (directory number round settings so_far) (server_round own at next) s is = absurd is

pub number_is : (site : Site) (at : At) (cut : Cut) (s : State) → MeetsCut site at cut s
    → (pass_at cut).number ≡ number_of at
number_is site (pass number) (at_pass left) s is = is.0
number_is site (server number round so_far) (server_round own at next) s is = is.0
number_is site (directory number round settings so_far) (dir_round here dir at next) s is = is.0
number_is site (pass number) (server_round own at next) s is = absurd is
number_is site (pass number) (dir_round here dir at next) s is = absurd is
number_is site (server number round so_far) (at_pass left) s is = absurd is
number_is site (server number round so_far) (dir_round here dir at next) s is = absurd is
number_is site (directory number round settings so_far) (at_pass left) s is = absurd is
number_is site (directory number round settings so_far) (server_round own at next) s is = absurd is
