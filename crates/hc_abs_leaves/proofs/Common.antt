-- The names that the proofs of this crate cite, passed on from one place. Declares nothing.
pub use Rattle.std.proofs.Common.{◌≡◌, ◌∙◌, ◌≤◌, ℕ, zero, suc, ◌+◌, nat_le, List, [], ◌∷◌, ◌++◌, length, map, reverse}
pub use Rattle.std.proofs.Common.{Bool, true, false, if◌then◌else◌, Option, Some, None}
pub use Rattle.std.proofs.Common.{refl, sym, ap, ap₂, subst, inl, inr, arith, append_assoc, append-nil, length-append}
pub use Rattle.std.proofs.lemmas.List.{reverse-append}
pub use Rattle.hc_plan.specs.Branches.{Branch, Branches}
pub use Rattle.hc_plan.specs.Coded.{AllFit}
pub use Rattle.hc_abs_left.specs.Grounds.{shown_in}
pub use Rattle.hc_abs_left.specs.declared.ground.Ground.{Ground}
pub use Rattle.hc_abs_pass.specs.Passing.{Segment}
pub use Rattle.hc_abs_pass.specs.Walks.{IsListed}
pub use Rattle.hc_abs_tree.specs.Trees.{Leaf, Next, Node, Soil, ends, goes, next_of, plan_at}
