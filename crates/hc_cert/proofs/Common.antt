-- The names that the proofs of this crate cite, passed on from one place. Declares nothing.
pub use Rattle.std.proofs.Common.{◌≡◌, ◌⊎◌, ◌∙◌, inl, inr, ℕ, ◌+◌, List, [], ◌∷◌, ◌++◌, Bool, true, false, ◌&&◌, ◌||◌, not}
pub use Rattle.std.proofs.Common.{Option, Some, None, refl, sym, ap, subst, true≢false, arith, map, drop}
pub use Rattle.std.specs.List.{AllByRecursion, list_all, list_any}
pub use Rattle.hc_addr.specs.declared.addr.Addr.{Addr}
pub use Rattle.hc_cells.specs.Cells.{Sets, holds, of_set, set_at}
pub use Rattle.hc_dfa.specs.Automata.{Automaton, accepts}
pub use Rattle.hc_dfa.specs.Built.{Accepts}
pub use Rattle.hc_dfa.specs.Texts.{IsText, TextSet}
pub use Rattle.hc_invariant.specs.declared.cut.Cut.{Cut}
pub use Rattle.hc_invariant.specs.declared.named.NamedCell.{NamedCell}
pub use Rattle.hc_model.specs.declared.request.Caller.{Caller}
pub use Rattle.hc_plan.specs.Branches.{Branch}
pub use Rattle.hc_plan.specs.Coded.{AllFit}
pub use Rattle.hc_plan.specs.Hands.{cell_of}
pub use Rattle.hc_plan.specs.Slots.{Slot, same_slot}
pub use Rattle.hc_plan.specs.declared.storing.Tied.{Tied}
pub use Rattle.hc_abs_left.specs.Segments.{FinishFits, SegmentFits}
pub use Rattle.hc_abs_left.specs.declared.segment.Finish.{Finish as FinishIn}
pub use Rattle.hc_abs_left.specs.declared.segment.Segment.{Segment as SegmentIn}
pub use Rattle.hc_abs_pass.specs.Passing.{Finish, Segment}
