-- The names that the proofs of this crate cite, passed on from one place. Declares nothing.
pub use Rattle.std.proofs.Common.{◌≡◌, ℕ, ◌<◌, ◌≤◌, suc, List, [], ◌∷◌, ◌++◌, map, refl}
pub use Rattle.std.proofs.Common.{ap, sym, ◌∙◌, subst, cond, Bool, true, false, IsTrue, Option, None, Some}
pub use Rattle.std.proofs.Common.{◌+◌, ◌-◌, take, length, length-append, ◌↔◌, arith, rules, inl, inr, ◌⊎◌, ◌&&◌, not}
pub use Rattle.std.proofs.Common.{Result}
pub use Rattle.std.proofs.lemmas.List.{length-map, take_more}
pub use Rattle.std.proofs.lemmas.List.Sums.{sum_by-take-le, sum_by_push}
pub use Rattle.std.proofs.lemmas.Bool.{lt-ltb, le-ltb, cases_lt, cases_order, and_parts, true≢false}
pub use Rattle.std.proofs.lemmas.Map.Made.{lookup-map_values}
pub use Rattle.std.proofs.lemmas.Map.Entries.{place_from_lookup}
pub use Rattle.std.proofs.lemmas.Map.Keys.{Less-from_sorted}
pub use Rattle.std.proofs.lemmas.Map.Views.{All-turn}
pub use Rattle.std.proofs.lemmas.Map.Iter.{iter_end, iter_turn}
pub use Rattle.std.proofs.lemmas.Option.{slice_get-map, slice_get_within, get_or_from_slice_get}
pub use Rattle.std.proofs.lemmas.Result.{IfOk-weaker}
pub use Rattle.std.specs.Cmp.{IsTotalOrder, IsEquivalence, eq_by_cmp_equiv, Equal-is}
pub use Rattle.std.specs.Cmp.Rules.{comparing}
pub use Rattle.std.specs.List.{AllZip, slice_get}
pub use Rattle.std.specs.List.Sorted.{IsStrictlySortedBy}
pub use Rattle.std.specs.Map.{lookup, keys_of}
pub use Rattle.std.specs.Map.Iter.{deref_pair}
pub use Rattle.std.specs.Option.{option_map}
pub use Rattle.std.specs.Ordering.{is_eq}
pub use Rattle.std.specs.Result.{IfOk}
pub use Rattle.std.specs.declared.cmp.Ordering.{Ordering}
pub use Rattle.std.specs.declared.cmp.Ordering.TheVariants.{Less, Equal, Greater}
pub use Rattle.std.specs.declared.rc.Rc.{Rc}
pub use Rattle.hc_dfa.specs.Automata.{Automaton, accepts, states}
pub use Rattle.hc_dfa.specs.Texts.{IsText, TextSet, IsEmptySet, IsLeast, IsLeastOf}
pub use Rattle.hc_cells.specs.Cells.{Sets, shared_set, sets_in, set_at, of_set, holds, Puts, Restricts, HasEmptySlot}
pub use Rattle.hc_cells.specs.Cells.{IsWithinAt, IsWithin, IsFirstOutside, states_in, room_left}
pub use Rattle.hc_cells.specs.Slots.{slot_cmp, same_slot}
pub use Rattle.hc_cells.specs.declared.slot.Slot.{Slot}
