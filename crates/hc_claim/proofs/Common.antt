-- The names that the proofs of this crate and of those above cite, passed on from one place. Declares nothing.
pub use Rattle.std.proofs.Common.{◌≡◌, ◌∙◌, inl, inr, ℕ, List, [], ◌∷◌, ◌++◌, Bool, true, false}
pub use Rattle.std.proofs.Common.{◌&&◌, Option, Some}
pub use Rattle.std.proofs.Common.{None, refl, sym, ap, subst, true≢false, arith}
pub use Rattle.std.specs.List.{find, list_any}
pub use Rattle.hc_model.specs.declared.outcome.Outcome.{Outcome}
pub use Rattle.hc_model.specs.declared.outcome.Outcome.TheVariants as outcome
pub use Rattle.hc_abs_leaves.specs.declared.leaf.LeafEnd.TheVariants as end
