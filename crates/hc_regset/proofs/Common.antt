-- The names that the proofs of this crate cite, passed on from one place. Declares nothing.
pub use Rattle.std.proofs.Common.{◌≡◌, ◌↔◌, ℕ, Bool, not, IsTrue, List, [], ◌∷◌, None, Some, Err}
pub use Rattle.std.proofs.Common.{map, drop, length, get_or, sym, refl, ap, ◌∙◌, subst, inl, inr, ⊎_elim}
pub use Rattle.std.proofs.Common.{◌+◌, ◌<◌, ◌*◌, false, replicate, slice_index, slice_index_or, arith}
pub use Rattle.hc_dfa.specs.Built.{Accepts, kept, product_of}
pub use Rattle.hc_regset.specs.Forms.{Form, form_of}
pub use Rattle.hc_regset.specs.Joinings.{put_of, keep_of, joined}
