-- The names that the proofs of this crate cite, passed on from one place. Declares nothing.
pub use Rattle.std.proofs.Common.{◌≡◌, ℕ, zero, suc, ◌+◌, ◌-◌, ◌*◌, ◌/◌, ◌%◌, ◌^◌}
pub use Rattle.std.proofs.Common.{◌<◌, ◌≤◌, ◌==◌, ◌&&◌, ◌||◌}
pub use Rattle.std.proofs.Common.{Bool, true, false, List, [], ◌∷◌, length, take, drop, Option, Some, None}
pub use Rattle.std.proofs.Common.{refl, sym, ◌∙◌, ap, ap₂, subst, arith, nat_le, nat_lt, if◌then◌else◌}
pub use Rattle.std.proofs.Common.{lit<, lit≤}
