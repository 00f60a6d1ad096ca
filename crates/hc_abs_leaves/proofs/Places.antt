-- The branches of a node, by where it stands.
use Rattle.hc_abs_leaves.proofs.Common.{◌≡◌, ◌∙◌, ℕ, ◌+◌, nat_le, List, [], Bool, Option, Some, None, refl, sym, ap, subst}
use Rattle.hc_abs_leaves.proofs.Common.{Ground, shown_in}
use Rattle.std.proofs.Common.{Global}
use Rattle.std.specs.Rc.{rc_value}
use Rattle.std.specs.declared.rc.Rc.{Rc}
use Rattle.hc_model.specs.declared.section.Body.{Body}
use Rattle.hc_model.specs.declared.section.Effective.{Effective}
unfoldable use Rattle.hc_plan.specs.Branches.{Branches}
use Rattle.hc_plan.specs.Plan.{leave_out}
use Rattle.hc_plan.specs.States.{AbsState}
use Rattle.hc_plan.specs.declared.storing.Tied.{Tied}
use Rattle.hc_serve.specs.Site.{most_passes}
use Rattle.hc_abs_force.specs.Merging.{merges}
use Rattle.hc_abs_left.specs.Grounds.{SettingsFit, Stands, ground_in, site_in}
use Rattle.hc_abs_left.specs.Segments.{Are, AreDirRound}
use Rattle.hc_abs_left.specs.declared.ground.Settings.{Settings as LentSettings}
use Rattle.hc_abs_left.specs.declared.segment.Segment.{Segment as SegmentIn}
use Rattle.hc_abs_pass.specs.Listing.{so_far_of}
use Rattle.hc_abs_pass.specs.Passing.{Settings, pass_plan, server_round_plan}
use Rattle.hc_abs_pass.specs.declared.list.SoFar.{SoFar}
use Rattle.hc_abs_restart.specs.Restarted.{is_among}
use Rattle.hc_abs_run.specs.Running.{ArePass, AreServerRound}
use Rattle.hc_abs_rw.specs.RuleBranches.{Rests}
use Rattle.hc_abs_tree.specs.Trees.{dir_plan, ground_at, plan_at}
use Rattle.hc_abs_leaves.specs.Fitting.{AtFits, soil_in}
use Rattle.hc_abs_leaves.specs.Nodes.{AreAt, AreIn}
use Rattle.hc_abs_leaves.specs.declared.node.At.{At as AtIn}
use Rattle.hc_abs_leaves.specs.declared.node.At.TheVariants as place

-- ---- from a further round of a directory's list

module _ (ground : Ground) (lent : LentSettings) (so_far : SoFar) (tied : Tied) (found : List SegmentIn) where
  by_directory : (dir : Option (List ℕ)) → lent.force.dir ≡ dir
      → ((levels : ℕ) (merges : Body → Bool) (settings : Settings) (state : AbsState) → SettingsFit lent settings
      → Rests ground.client tied state
      → Are ground (dir_plan (ground_in levels merges ground) settings (so_far_of so_far) dir) state found)
      → AreIn ground lent so_far tied found
  by_directory dir is are levels merges settings state fit rests =
      subst (λ dir. Are ground (dir_plan (ground_in levels merges ground) settings (so_far_of so_far) dir) state found)
      (sym (ap (λ (force : Effective). force.dir) fit.force ∙ is)) (are levels merges settings state fit rests)

  pub in_directory : (dir : List ℕ) → lent.force.dir ≡ Some dir → AreDirRound ground lent dir so_far tied found
      → AreIn ground lent so_far tied found
  in_directory dir is are = by_directory (Some dir) is are

  pub in_none : lent.force.dir ≡ None → found ≡ [] → AreIn ground lent so_far tied found
  unfolding Branches
  in_none is none = by_directory None is (λ levels merges settings state fit rests.
      subst (λ found. Are ground leave_out state found) (sym none) ([], refl, refl))

-- ---- in the pass of a number

module _ (ground : Ground) (most counted number : ℕ) (stands : Stands ground)
    (is : most ≡ most_passes ground.config.now ground.host) (same : counted ≡ number) where
  abbrev numbered : Ground
  numbered = record ground { last = nat_le most (counted + 1) }

  same_ground : (levels : ℕ) → ground_in levels merges numbered ≡ ground_at (soil_in levels ground) number
  same_ground levels = λ i. record {
    site = record (site_in ground) { caller = sym stands.caller i };
    last = nat_le (is i) (same i + 1);
    shown = shown_in ground;
    levels = levels;
    merges = merges;
    names = is_among ground.names.now;
  }

  module _ (own : AtIn) (tied : Tied) (found : List SegmentIn) where
    pub at_pass : own ≡ place.Pass → ArePass numbered tied found → AreAt ground number own tied found
    at_pass here are levels at state listed fits rests clients =
        let soil = soil_in levels ground in
        subst (λ at. Are ground (plan_at soil at) state found) (sym (subst (λ own. AtFits number own at) here fits))
        (subst (λ base. Are ground (pass_plan base) state found) (same_ground levels)
        (are levels state listed clients rests))

    pub at_server : (round : ℕ) (so_far : SoFar) → own ≡ place.Server round so_far
        → AreServerRound numbered so_far tied found → AreAt ground number own tied found
    at_server round so_far here are levels at state listed fits rests clients =
        let soil = soil_in levels ground in
        subst (λ at. Are ground (plan_at soil at) state found) (sym (subst (λ own. AtFits number own at) here fits))
        (subst (λ base. Are ground (server_round_plan base (so_far_of so_far)) state found) (same_ground levels)
        (are levels state listed clients rests))

    pub at_directory : (round : ℕ) (settings : Rc LentSettings Global) (so_far : SoFar)
        → own ≡ place.Directory round settings so_far → AreIn numbered (rc_value settings) so_far tied found
        → AreAt ground number own tied found
    at_directory round settings so_far here are levels at state listed fits rests clients =
        let soil = soil_in levels ground in
        let place = subst (λ own. AtFits number own at) here fits in
        subst (λ at. Are ground (plan_at soil at) state found) (sym place.2)
        (subst (λ base. Are ground (dir_plan base place.0 (so_far_of so_far) place.0.force.dir) state found)
        (same_ground levels) (are levels merges place.0 state place.1 rests))
