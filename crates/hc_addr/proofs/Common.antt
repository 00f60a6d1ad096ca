-- The names that the proofs of this crate cite, passed on from one place. Declares nothing.
pub use Rattle.std.proofs.Common.{◌≡◌, ℕ, zero, suc, ◌+◌, ◌/◌, ◌%◌, ◌^◌, ◌<◌, ◌≤◌}
pub use Rattle.std.proofs.Common.{Bool, true, false, cond, eqb, ltb, leb, List, [], ◌∷◌, length, Some, refl, ap}
pub use Rattle.std.proofs.Common.{arith, get_or, drop, Option, None, add-one, drop-cons, ◌++◌, ◌∙◌, ◌-◌}
pub use Rattle.std.proofs.Common.{◌*◌, lit<, lit≤, map, sym, ◌==◌, rules, tests}
pub use Rattle.std.proofs.Math.Nat.{div-lt_iff_lt-mul, pow-suc, pow-zero, pow-le-pow_right, mul-le-mul, mod-lt}
pub use Rattle.std.proofs.lemmas.Bool.Decides.{nat_tests}
pub use Rattle.std.specs.Char.{digit_value, is_digit}
pub use Rattle.std.specs.List.{AllByRecursion, list_all, join_with_byte, list_any, slice_split}
pub use Rattle.std.specs.Option.{option_map}
pub use Rattle.std.specs.Str.Parse.{AllDigits, digits_value_after}
pub use Rattle.hc_addr.specs.Addresses.{begins_with_gap, gap_of, has_colon, v4_of, v6_at, v6_of, whole}
pub use Rattle.hc_addr.specs.Forms.{base_of, most_of, number_in, row_with, separator_of, row_in}
pub use Rattle.hc_addr.specs.Numbers.{number_of, is_colon, at_most, byte_of, group_of, numbers_of, row_of, with_first}
