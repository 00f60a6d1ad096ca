-- The names that the proofs of this crate cite, passed on from one place. Declares nothing.
pub use Rattle.std.proofs.Common.{◌≡◌, ◌∙◌, ℕ, zero, suc, ◌+◌, ◌<◌, ◌≤◌, ◌==◌, List}
pub use Rattle.std.proofs.Common.{[], ◌∷◌, ◌++◌, map, length, drop, take, Bool, true, false, not, ◌&&◌}
pub use Rattle.std.proofs.Common.{◌||◌, if◌then◌else◌, Option, Some, None, refl, sym, ap, ap₂, subst}
pub use Rattle.std.proofs.Common.{arith, ◌⊎◌, inl, inr, true≢false, append_assoc, append-nil, eqb-true, eq-eqb}
pub use Rattle.hc_plan.specs.Plan.{Item, Plan, done}
pub use Rattle.hc_plan.specs.Slots.{Slot}
pub use Rattle.hc_plan.specs.Texts.{pick, place}
