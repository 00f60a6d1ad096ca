-- The names that the proofs of this crate cite, passed on from one place. Declares nothing.
pub use Rattle.std.proofs.Common.{◌≡◌, ◌∙◌, ℕ, List, [], ◌∷◌, ◌++◌, length, drop, take, Bool, true, false, not}
pub use Rattle.std.proofs.Common.{◌&&◌, ◌||◌, if◌then◌else◌, Option, Some, None, refl, sym, ap, subst}
pub use Rattle.std.proofs.Common.{arith, inl, inr, true≢false, append-nil}
pub use Rattle.std.proofs.Math.Path.{fun_ext}
pub use Rattle.std.specs.List.{list_any}
pub use Rattle.std.specs.Str.{bytes_eq}
pub use Rattle.hc_addr.specs.declared.addr.Addr.{Addr}
pub use Rattle.hc_dfa.specs.Automata.{Automaton, accepts}
pub use Rattle.hc_dfa.specs.Built.{Accepts}
pub use Rattle.hc_dfa.specs.Texts.{IsText, TextSet}
pub use Rattle.hc_plan.proofs.Common.{and_both, and_left, and_right}
pub use Rattle.hc_plan.proofs.Made.{is_text, text_is}
pub use Rattle.hc_plan.specs.Hands.{cell_of, set_in}
pub use Rattle.hc_plan.specs.Plan.{Plan, done}
pub use Rattle.hc_plan.specs.Slots.{Slot}
pub use Rattle.hc_plan.specs.States.{AbsState}
pub use Rattle.hc_plan.specs.Texts.{any, of_bytes}
pub use Rattle.hc_plan.specs.declared.storing.Tied.{Tied}
pub use Rattle.hc_abs_pass.specs.Ends.{EndsAt}
