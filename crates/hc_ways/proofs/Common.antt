-- The names that the proofs of this crate cite, passed on from one place. Declares nothing.
pub use Rattle.std.proofs.Common.{◌≡◌, ℕ, Bool, true, false, List, [], ◌∷◌, if◌then◌else◌, refl, ap}
pub use Rattle.std.proofs.Common.{◌∙◌, ◌++◌, zero, suc, ◌+◌, ◌-◌, ◌<◌, ◌≤◌, length, nat_lt}
pub use Rattle.std.proofs.Common.{nat_eq, max, Option, Some, None, slice_get, sym, arith, true≢false, ltb-true}
pub use Rattle.std.proofs.Common.{le-ltb, lt-ltb}
pub use Rattle.std.specs.List.{flat_map, filter}
pub use Rattle.hc_pattern.specs.Pattern.{Pattern, empty, byte, class, start, finish, cat, alt, group, repeat}
pub use Rattle.hc_ways.specs.Kept.{Turns, held_after, nothing_held, with_group, with_turn, last_ways}
pub use Rattle.hc_ways.specs.Ways.{Way, Ways, stop, behind, either, stop_where, preferred, Keeping, none, meets}
pub use Rattle.hc_ways.specs.Ways.{step_where, closed, grouped, moving, any_turns, turns_up_to, turns_then, repeated}
pub use Rattle.hc_ways.specs.Ways.{ways}
