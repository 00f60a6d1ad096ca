-- The names that the proofs of this crate cite, passed on from one place. Declares nothing.
pub use Rattle.std.proofs.Common.{◌≡◌, ℕ, ◌+◌, ◌<◌, ◌≤◌, length, drop, get_or, subst, List, []}
pub use Rattle.std.proofs.Common.{◌∷◌, ◌++◌, refl, sym, ap, ◌∙◌, Result, Ok, Err, nat_lt, Bool, true}
pub use Rattle.std.proofs.Common.{false, take, cond, Option, Some, None, arith, append_assoc, append-nil, length-append}
pub use Rattle.std.proofs.Common.{zero, suc, if◌then◌else◌, Contains, slice_index_or, ◌⊎◌, inl, inr, rules}
pub use Rattle.std.proofs.Common.{of_calls}
pub use Rattle.std.specs.BTreeSet.{insert_key}
pub use Rattle.std.specs.List.{fold}
pub use Rattle.hc_model.specs.declared.event.Event.{Event}
pub use Rattle.hc_model.specs.declared.read.Read.{Read}
pub use Rattle.hc_model.specs.Reads.{path_of, rank_of, read_cmp}
pub use Rattle.hc_steps.specs.Order.{each_once}
pub use Rattle.hc_steps.specs.Run.{Run, on_way, Way, goes_on, is_over, behind, looking, run_then, saying}
unfoldable pub use Rattle.hc_steps.specs.Run.{run}
