-- The names that the proofs of this crate cite, passed on from one place. Declares nothing.
pub use Rattle.std.proofs.Common.{◌≡◌, ◌≢◌, ℕ, suc, ◌+◌, ◌<◌, ◌⊎◌, ◌↔◌, List, []}
pub use Rattle.std.proofs.Common.{◌∷◌}
pub use Rattle.std.proofs.Common.{◌++◌, length, take, drop, Bool, true, false, not, cond, ◌&&◌}
pub use Rattle.std.proofs.Common.{◌||◌, if◌then◌else◌}
pub use Rattle.std.proofs.Common.{nat_eq, Option, Some, None, refl, sym, ◌∙◌, ap, subst, inl, inr, arith}
pub use Rattle.std.proofs.Common.{append-nil, append_assoc, eqb-true, ◌==◌, slice_index, ⊎_elim}
pub use Rattle.std.proofs.lemmas.Bool.Decides.{eqb_tells}
pub use Rattle.std.specs.Prelude.{IsTrue}
pub use Rattle.hc_dfa.specs.Automata.{Automaton, accepts_from}
unfoldable pub use Rattle.hc_dfa.specs.Automata.{accepts}
pub use Rattle.hc_dfa.specs.Built.{Accepts, product_of}
pub use Rattle.hc_dfa.specs.Texts.{IsText, TextSet}
pub use Rattle.hc_pat_lang.specs.Sets.{AcceptsOnly, IsJoined}
pub use Rattle.hc_rw_sets.specs.Made.{MadeOf, MadeOfBoth}
