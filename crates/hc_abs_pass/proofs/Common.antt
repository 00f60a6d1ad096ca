-- The names that the proofs of this crate cite, passed on from one place. Declares nothing.
pub use Rattle.std.proofs.Common.{◌≡◌, ◌∙◌, ℕ, zero, suc, ◌+◌, ◌<◌, ◌≤◌, ◌==◌, List}
pub use Rattle.std.proofs.Common.{[], ◌∷◌, ◌++◌, map, length, drop, Bool, true, false, not, ◌&&◌}
pub use Rattle.std.proofs.Common.{◌||◌, if◌then◌else◌, Option, Some, None, refl, sym, ap, ap₂, subst}
pub use Rattle.std.proofs.Common.{arith, ◌⊎◌, inl, inr, true≢false, append_assoc, append-nil, eqb-true}
pub use Rattle.std.proofs.Common.{unwrap_or, length-append, option_map}
pub use Rattle.hc_plan.specs.Running.{State, ended, in_hand, item_text, text_of, Run as PlanRun, place_in}
unfoldable pub use Rattle.hc_plan.specs.Running.{run as plan_run}
pub use Rattle.hc_plan.specs.Plan.{Item, Plan, done}
pub use Rattle.hc_plan.specs.Slots.{Slot}
pub use Rattle.hc_plan.specs.Texts.{pick}
pub use Rattle.hc_rw_expand.specs.declared.state.RwState.{RwState}
pub use Rattle.hc_steps.specs.Run.{is_over}
unfoldable pub use Rattle.hc_steps.specs.Run.{run}
pub use Rattle.hc_steps.specs.Step.{Shown, Step, leaves, ends, look}
unfoldable pub use Rattle.hc_steps.specs.Step.{◌>>=◌}
pub use Rattle.hc_abs_rw.specs.Standing.{Like, Meets, decisions_in}
