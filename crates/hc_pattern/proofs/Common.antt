-- The names that the proofs of this crate cite, passed on from one place. Declares nothing.
pub use Rattle.std.proofs.Common.{◌≡◌, ℕ, ◌+◌, ◌*◌, ◌<◌, ◌≤◌, Bool, true, false, ◌&&◌}
pub use Rattle.std.proofs.Common.{◌||◌, List, [], ◌∷◌, ◌++◌, min, Option, Some, None, if◌then◌else◌}
pub use Rattle.std.proofs.Common.{length, ◌==◌, refl, ap, ◌∙◌, ⊎_elim, nat_lt, le-ltb, ltb-false, arith}
pub use Rattle.std.proofs.Common.{zero, suc, ◌-◌, not, drop, take, get_or, sym, append_assoc, eqb-true, lt-ltb}
pub use Rattle.std.proofs.Common.{Result, Ok, Err, Box, Global, length-drop, add-one, ◌%◌, ◌^◌, ◌≢◌}
pub use Rattle.std.proofs.Common.{nat_le, max, inl, inr, eq-eqb, true≢false, vec_len}
pub use Rattle.std.proofs.Math.Bool.{or-false, or-true, and-true, or_assoc}
pub use Rattle.std.proofs.lemmas.Bool.Decides.{nat_tests}
pub use Rattle.std.proofs.lemmas.List.{map-append, reverse-append, take_all}
pub use Rattle.std.specs.List.{list_any}
pub use Rattle.std.specs.Prelude.{map, option_map, reverse}
pub use Rattle.hc_pattern.specs.Bits.{has_bit, has_byte, set_where, IsTest}
unfoldable pub use Rattle.hc_pattern.specs.Bits.{bits_where}
pub use Rattle.hc_pattern.specs.Building.{group_pattern, kept, turns_nodes, KnownLevel, KnownLevels, before_known}
pub use Rattle.hc_pattern.specs.Building.{body_known, both_known, capped, counted_known, either_known, group_known}
pub use Rattle.hc_pattern.specs.Building.{levels_known, new_known, nothing_known, outer_known, token_known, turns_known}
pub use Rattle.hc_pattern.specs.Building.{whole_known}
pub use Rattle.hc_pattern.specs.Classes.{is_in_part, parts_of, parts_refusal, class_from}
pub use Rattle.hc_pattern.specs.Globs.{GlobPiece, before_all, in_a_row, marks_from, may_be, more_of, patterns_of}
pub use Rattle.hc_pattern.specs.Globs.{piece_at, piece_pattern, pieces_of, is_among, ranges_of, some_wildcard}
pub use Rattle.hc_pattern.specs.Globs.{before_close, is_in, falling}
pub use Rattle.hc_pattern.specs.Pattern.{Pattern, cat, alt, repeat, finish, pattern_of, empty, byte, class, start}
pub use Rattle.hc_pattern.specs.Pattern.{group, node_view}
pub use Rattle.hc_pattern.specs.Reading.{unclosed_refusal, groups_of}
pub use Rattle.hc_pattern.specs.Tokens.{value_of, sign_at, tokens_from, tokens_of}
