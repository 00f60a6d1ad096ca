-- The names that the proofs of this crate cite, passed on from one place. Declares nothing.
pub use Rattle.std.proofs.Common.{◌≡◌, ◌∙◌, ◌⊎◌, inl, inr, ℕ, zero, suc, ◌+◌, List, [], ◌∷◌, ◌++◌, Bool, true}
pub use Rattle.std.proofs.Common.{false, not, ◌&&◌, ◌||◌, if◌then◌else◌, Option, Some, None, refl, sym, ap}
pub use Rattle.std.proofs.Common.{subst, append_assoc, append-nil, true≢false, eqb-true, arith, map}
pub use Rattle.hc_plan.specs.Running.{State, Run as PlanRun, ended, too_long, left_out, in_hand, holding}
pub use Rattle.hc_plan.specs.Running.{run_then as plan_then}
unfoldable pub use Rattle.hc_plan.specs.Running.{run as plan_run}
pub use Rattle.hc_plan.specs.Plan.{Plan, done}
unfoldable pub use Rattle.hc_plan.specs.Plan.{and_then}
pub use Rattle.hc_plan.specs.Slots.{Slot}
pub use Rattle.hc_plan.specs.Texts.{pick}
pub use Rattle.hc_model.specs.declared.event.Decision.{Decision}
pub use Rattle.hc_model.specs.declared.event.Event.{Event}
pub use Rattle.hc_model.specs.declared.outcome.Outcome.{Outcome}
pub use Rattle.hc_rw_expand.specs.declared.state.RwState.{RwState}
pub use Rattle.hc_steps.specs.Run.{Run, Way, goes_on, is_over, on_way}
unfoldable pub use Rattle.hc_steps.specs.Run.{run}
pub use Rattle.hc_steps.specs.Step.{Shown, Step, leaves, ends}
unfoldable pub use Rattle.hc_steps.specs.Step.{◌>>=◌}
unfoldable pub use Rattle.hc_include.specs.Ending.{ending}
pub use Rattle.hc_serve.specs.Site.{Site}
pub use Rattle.hc_serve.specs.declared.stage.Here.{Here}
pub use Rattle.hc_serve.specs.declared.stage.Pass.{Pass}
