-- The names that the proofs of this crate cite, passed on from one place. Declares nothing.
pub use Rattle.std.proofs.Common.{◌≡◌, ◌∙◌, ℕ, List, [], ◌∷◌, ◌++◌, Bool, true, false, ◌&&◌, Option, None, Some}
pub use Rattle.std.proofs.Common.{refl, sym, ap, subst, map, append-nil, append_assoc}
pub use Rattle.hc_dfa.specs.Automata.{Automaton, accepts}
pub use Rattle.hc_dfa.specs.Built.{Accepts}
pub use Rattle.hc_dfa.specs.Texts.{IsText, TextSet}
pub use Rattle.hc_plan.specs.Branches.{Branch}
pub use Rattle.hc_plan.specs.Coded.{AllFit, AreBranches}
pub use Rattle.hc_plan.specs.Plan.{Plan}
pub use Rattle.hc_plan.specs.States.{AbsState}
pub use Rattle.hc_plan.specs.declared.storing.Tied.{Tied}
pub use Rattle.hc_abs_left.specs.Grounds.{ground_in, shown_in}
pub use Rattle.hc_abs_left.specs.declared.ground.Ground.{Ground}
pub use Rattle.hc_abs_pass.specs.Passing.{Settings}
pub use Rattle.hc_abs_pass.specs.Walks.{WalkEnd}
pub use Rattle.hc_abs_pass.specs.declared.walk_ends.End.{End}
pub use Rattle.hc_abs_cuts.specs.declared.places.Place.{Place}
