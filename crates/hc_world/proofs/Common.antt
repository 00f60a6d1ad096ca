-- The names that the proofs of this crate cite, passed on from one place. Declares nothing.
pub use Rattle.std.proofs.Common.{◌≡◌, ℕ, Bool, true, false, ◌&&◌, List, [], ◌∷◌, map, Vec, sym, ap}
pub use Rattle.std.proofs.Common.{◌∙◌, subst, T, cond, Option, Some, None, refl, inl, inr, ◌⊎◌, ◌<◌}
pub use Rattle.std.proofs.Common.{◌++◌, length, take, nat_eq, append-nil, arith, ◌+◌, ◌≤◌, ◌==◌}
pub use Rattle.std.proofs.Common.{nat_le, leb→le, le-leb, ◌||◌, drop, append_assoc, length-append, not, nat_lt}
pub use Rattle.std.proofs.Common.{rules, ◌≢◌, zero, suc, ◌-◌, slice_index, add-zero, take_while, Ok, Err, eqb}
pub use Rattle.std.proofs.Common.{Result, IsSome, Contains, tests}
pub use Rattle.std.proofs.lemmas.Bool.{false≢true, true≢false, and_parts, eqb-true, or_cases, or_left, or_right}
pub use Rattle.std.proofs.lemmas.Bool.{lt-leb, cases_Bool, false_from_ne_true, ne_eqb, cases_lt, cond-true, cond-false}
pub use Rattle.std.proofs.lemmas.Bool.{cond_both}
pub use Rattle.std.proofs.lemmas.Cmp.{nat_list_cmp_total, eq_by_cmp_equiv, alike_right, nat_cmp_total, ranked}
pub use Rattle.std.proofs.lemmas.Cmp.{tied_itself}
pub use Rattle.std.proofs.lemmas.List.{drop-append-le, drop_more, length-take-le, take-append-drop, take_more, take_all}
pub use Rattle.std.proofs.lemmas.List.{drop_all}
pub use Rattle.std.specs.Cmp.Lexicographic.{slice_cmp, slice_partial_cmp, bytes_decides, lists_agrees}
pub use Rattle.std.specs.FinMap.{from_sorted, entries-from_sorted, get-from_entries, get-from_sorted, keys, get, insert}
pub use Rattle.std.specs.FinMap.{remove, get-empty, empty}
pub use Rattle.std.specs.List.{AllByRecursion, starts_with, list_all, list_any, onto_first, slice_split, cons_option}
pub use Rattle.std.specs.List.{filter, filter_map}
pub use Rattle.std.specs.Map.{keys_of, lookup}
pub use Rattle.std.specs.Option.{option_map, option_copied}
pub use Rattle.std.specs.Ordering.{is_lt, nat_cmp, eq_by_cmp, is_le, is_some_and, ordering_reverse, ordering_then}
pub use Rattle.std.specs.declared.alloc.Global.{Global}
pub use Rattle.std.specs.declared.cmp.Ordering.TheVariants.{Less, Equal, Greater}
pub use Rattle.hc_base.specs.Paths.{begins_with_slash, is_slash, ends_with_slash}
pub use Rattle.hc_model.specs.Node.{Node, dir, file, text, kind_of, is_dir, is_file, text_of}
pub use Rattle.hc_model.specs.World.{World, root, fronts, is_component, is_path, parents, as_name, name_behind_slash}
pub use Rattle.hc_model.specs.World.{name_in, IsWorld, with_dirs, with_node, new_world, is_under_file, list_dir}
pub use Rattle.hc_model.specs.World.{put_file}
pub use Rattle.hc_model.specs.declared.walk.Kind.TheVariants.{Absent, Dir, File}
pub use Rattle.hc_steps.specs.Walking.{ended, follow, onward}
unfoldable pub use Rattle.hc_steps.specs.Walking.{walk}
pub use Rattle.hc_world.specs.Edits.{EditsFiles, IsEdit, Edited}
pub use Rattle.hc_world.specs.Entries.{entry_of, world_of, node_of, add_in}
pub use Rattle.hc_world.specs.Places.{is_before, is_up_to, GoesOn, IsFirstFrom, front_of, keys_behind, keys_from}
pub use Rattle.hc_world.specs.Places.{name_behind}
pub use Rattle.hc_world.specs.Slashes.{IsNextSlash, HasNoSlash, fronts_from, steps_from}
pub use Rattle.hc_world.specs.declared.nodes.Entry.{Entry}
pub use mathlib.Core.Logic.{⊎_elim}
