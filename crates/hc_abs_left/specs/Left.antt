-- Behind the rules of a directory, from what is lent.
use Rattle.std.specs.Prelude.{ℕ, List, Bool, true, false, Option, None, Some, option_map}
use Rattle.hc_alias.specs.Mapping.{root_of}
use Rattle.hc_model.specs.declared.event.Decision.{Decision}
use Rattle.hc_plan.specs.Coded.{AddsNext, AreNext}
use Rattle.hc_plan.specs.Plan.{Plan, and_then, done, put_down}
use Rattle.hc_plan.specs.States.{AbsState}
use Rattle.hc_plan.specs.declared.storing.Tied.{Tied}
use Rattle.hc_rw_expand.specs.Contexts.{Engine}
use Rattle.hc_vhost.specs.Servers.{servers_of}
use Rattle.hc_abs_map.specs.Mapped.{RedirectedFits}
use Rattle.hc_abs_map.specs.declared.redirects.Redirected.{Redirected}
use Rattle.hc_abs_pass.specs.Ends.{EndsAt, Left, found, next_pass}
use Rattle.hc_abs_pass.specs.Passing as plans
use Rattle.hc_abs_pass.specs.Passing.{ends_so}
use Rattle.hc_abs_pass.specs.Restarting.{restart_plan}
use Rattle.hc_abs_pass.specs.declared.ends.Left.{Left as LeftIn}
use Rattle.hc_abs_restart.specs.Restarted.{is_among, placed_by}
use Rattle.hc_abs_restart.specs.declared.restart.Restarted.{Restarted}
use Rattle.hc_abs_left.specs.Segments.{Are, SegmentFits}
use Rattle.hc_abs_left.specs.declared.ground.Ground.{Ground}
use Rattle.hc_abs_left.specs.declared.ground.Settings.{Settings}
use Rattle.hc_abs_left.specs.declared.segment.Finish.{Finish}
use Rattle.hc_abs_left.specs.declared.segment.Finish.TheVariants as finish
use Rattle.hc_abs_left.specs.declared.segment.Segment.{Segment}

-- ---- ends

-- A branch that ends so, with the tree of Require lines that is in force.
abbrev pub ended_in : Settings → List Decision → Tied → Finish → Segment
ended_in settings decisions tied end =
    record { tied = tied; decisions = decisions; require = settings.force.require; finish = end }

-- A branch at which the pass ends, and that of a restart.
abbrev pub stopped_in : Settings → List Decision → Tied → LeftIn → Segment
stopped_in settings decisions tied left = ended_in settings decisions tied (finish.Stopped left)

abbrev pub stopped_so : Settings → List Decision → Restarted → Segment
stopped_so settings decisions restarted = stopped_in settings decisions restarted.tied restarted.left

-- ---- plans

-- A directory whose rules run.
abbrev pub engine_at : Settings → List ℕ → Engine
engine_at settings dir = record { dir = dir; base = settings.force.base; aliased = settings.aliased }

-- The directory whose rules run, if there is one.
abbrev pub engine_in : Settings → Option Engine
engine_in settings = option_map (engine_at settings) settings.force.dir

module _ (settings : Settings) (decisions : List Decision) where
  abbrev pub ends_with : Left → plans.Segment
  ends_with = ends_so settings.force.require decisions

  -- Where a redirect ends the pass. None leads to another pass; if one did, it would put the texts down.
  abbrev pub sent_plan : Left → Plan plans.Segment
  sent_plan next_pass = put_down (done (ends_with next_pass))
  sent_plan other = done (ends_with other)

module _ (ground : Ground) (settings : Settings) (decisions : List Decision) where
  -- Where none takes the path.
  abbrev pub unsent_plan : Bool → Plan plans.Segment
  unsent_plan ran = elim ran [
    | true ↦ and_then (restart_plan settings.kind ground.last
        (placed_by (root_of (servers_of ground.config.now ground.host)) (engine_in settings)) (is_among ground.names.now))
        (λ left. done (ends_with settings decisions left))
    | false ↦ done (ends_with settings decisions (found settings.kind))
  ]

  abbrev pub behind_redirects : Bool → Option Left → Plan plans.Segment
  behind_redirects ran (Some left) = sent_plan settings decisions left
  behind_redirects ran None = unsent_plan ran

  -- ---- what code finds

  abbrev pub AreUnsent : Bool → Tied → List Segment → Type 0
  AreUnsent ran tied later =
      (state : AbsState) → EndsAt ground.client tied state → Are ground (unsent_plan ran) state later

  abbrev pub AddsBehind : Bool → Redirected → List Segment → List Segment → Type 0
  AddsBehind ran =
      AddsNext (RedirectedFits ground.client) (SegmentFits ground.client ground.tests.now) (behind_redirects ran)

  abbrev pub AreBehind : Bool → List Redirected → List Segment → Type 0
  AreBehind ran =
      AreNext (RedirectedFits ground.client) (SegmentFits ground.client ground.tests.now) (behind_redirects ran)
