-- The names that the proofs of this crate cite, passed on from one place. Declares nothing.
pub use Rattle.std.proofs.Common.{◌≡◌, ℕ, ◌+◌, ◌*◌, ◌/◌, ◌%◌, ◌<◌, Bool, true, false, eqb}
pub use Rattle.std.proofs.Common.{not, List, [], ◌∷◌, ◌++◌, refl, ap, ◌∙◌, subst, arith, ◌≤◌}
pub use Rattle.std.proofs.Common.{length, get_or, drop, Some, sym, ◌&&◌, ◌||◌, cond, append-nil, append_assoc}
pub use Rattle.std.proofs.Common.{zero, suc, take, Option, None, IfSome, length-append, map, rules, tests}
pub use Rattle.std.proofs.lemmas.Bool.{both_ways, cond_both, ne_eqb, and_parts, eqb-true, not-true, or_parts}
pub use Rattle.std.proofs.lemmas.List.{drop_all, drop_more, drop_at, take_all, take_at, length_push}
pub use Rattle.std.specs.List.{AllByRecursion, flat_map, join_with_byte, onto_first, list_any, slice_split, list_all}
pub use Rattle.std.specs.List.{after_first, before_first, position_or_len}
pub use Rattle.hc_base.specs.Bytes.{percent, question, slash, is_question}
pub use Rattle.hc_base.specs.Paths.{has_double_slash, is_clean, is_dots, is_slash}
pub use Rattle.hc_target.specs.Escapes.{begins_with_digits, begins_with_slash_digits, escaped, escaped_byte}
pub use Rattle.hc_target.specs.Escapes.{escapes_slash, has_bad_escape, is_kept, some_percent}
pub use Rattle.hc_target.specs.Segments.{Reached, step, led_by, below, normal_path, path_to, root, above, is_normal}
pub use Rattle.hc_target.specs.Segments.{is_parent, is_plain, is_still}
