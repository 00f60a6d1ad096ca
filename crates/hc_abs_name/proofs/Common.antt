-- The names that the proofs of this crate cite, passed on from one place. Declares nothing.
pub use Rattle.std.proofs.Common.{◌≡◌, ◌∙◌, ℕ, List, [], ◌∷◌, ◌++◌, map, Bool, true, false, if◌then◌else◌}
pub use Rattle.std.proofs.Common.{Option, Some, None, refl, sym, ap, subst, inl, inr}
pub use Rattle.hc_plan.specs.Plan.{Plan, done}
