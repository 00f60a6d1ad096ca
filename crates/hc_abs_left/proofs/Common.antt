-- The names that the proofs of this crate cite, passed on from one place. Declares nothing.
pub use Rattle.std.proofs.Common.{◌≡◌, ◌∙◌, ℕ, List, [], ◌∷◌, ◌++◌, map, Bool, true, false, ◌&&◌, if◌then◌else◌}
pub use Rattle.std.proofs.Common.{Option, Some, None, option_map, refl, sym, ap, subst}
pub use Rattle.hc_plan.specs.Plan.{Plan, done}
pub use Rattle.hc_plan.specs.Slots.{Slot}
