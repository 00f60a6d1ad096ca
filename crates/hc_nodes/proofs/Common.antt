-- The names that the proofs of this crate cite, passed on from one place. Declares nothing.
pub use Rattle.std.proofs.Common.{◌≡◌, ℕ, List, [], ◌∷◌, ◌++◌, drop, true, refl, sym, ap, ◌∙◌}
pub use Rattle.std.proofs.Common.{drop-drop, None, Vec, Global, Bor, rules, ◌≢◌, ◌<◌, map, false, ◌&&◌}
pub use Rattle.std.proofs.Common.{◌==◌, inl, inr, Option, Some, MatchOption, arith, Bool, option_map, ◌+◌}
pub use Rattle.std.proofs.Common.{length, get_or, drop-cons, add-one, ◌-◌, zero, suc, not, subst, le_antisymm}
pub use Rattle.std.proofs.Common.{◌≤◌, append_assoc, append-nil}
pub use Rattle.std.proofs.lemmas.Bool.{and_right, cases_lt, false_from_ne_true, and_parts, and_from, not-true}
pub use Rattle.std.proofs.lemmas.Bool.{not_from_false, lt-leb, leb-false, eqb-true, not-false, or_cases, cases_Bool}
pub use Rattle.std.proofs.lemmas.Bool.{cond_both}
pub use Rattle.std.proofs.lemmas.Bool.Decides.{nat_tests, same_from_decides, Decides-eqb}
pub use Rattle.std.proofs.lemmas.Slice.Eq.{bytes_eq-Decides, strip_prefix_is, strip_suffix_is}
pub use Rattle.hc_base.specs.Bytes.{greater, less, slash, begins_with, ends_with, space, tab}
pub use Rattle.hc_lines.specs.declared.line.Line.{Line}
pub use Rattle.hc_nodes.specs.NodeView.{nodes_view, put_before, put_step}
pub use Rattle.hc_nodes.specs.Openings.{earlier_of, opening_lines, unclosed}
pub use Rattle.hc_nodes.specs.Sections.{IsClosed, section_closed, followed, section_lines, whole}
pub use Rattle.hc_nodes.specs.Tree.{Nodes, none, directive, block, rule_broken, is_close, next_of, refusals, with_line}
pub use Rattle.hc_nodes.specs.Tree.{close_of, same_name, comes_first, first_of_all, open_behind, or_earlier, refused_at}
pub use Rattle.hc_nodes.specs.Tree.{with_broken, is_opening, is_complete, closes, directive_at, block_at}
pub use Rattle.hc_nodes.specs.Tree.{closes_innermost, most_open, name_of, Reads, refusal_of, unless_refused, levels_of}
pub use Rattle.hc_nodes.specs.Tree.{IsOnlyTree}
unfoldable pub use Rattle.hc_nodes.specs.Tree.{nodes_of}
