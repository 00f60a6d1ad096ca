-- The names that the proofs of this crate cite, passed on from one place. Declares nothing.
pub use Rattle.std.proofs.Common.{◌≡◌, ℕ, ◌+◌, ◌<◌, ◌≤◌, List, [], ◌∷◌, ◌++◌, length}
pub use Rattle.std.proofs.Common.{take, drop, slice_index, Bool, true, false, ◌&&◌, refl, sym, ◌∙◌, ap, arith}
pub use Rattle.std.proofs.Common.{add-one, append_assoc, true≢false, length-drop, ◌-◌, append-nil, Option, Some}
pub use Rattle.std.proofs.Common.{None, Result, Ok, Err, length-append, suc, slice_range, not, Vec, Global, IfOk}
pub use Rattle.std.proofs.Common.{nat_eq, ◌==◌, zero, cond, subst, ◌||◌, string_bytes, add-zero, lit<, rules}
pub use Rattle.std.proofs.Math.Seq.{drop-cons, drop-length, take-append_seam, take-length}
pub use Rattle.std.proofs.lemmas.List.{take-append-drop, take_more, length-take-le, drop-append-le, drop-drop}
pub use Rattle.std.proofs.lemmas.List.{drop-take, drop_at, take-append-le, take-take, drop_more, nil_from_length}
pub use Rattle.std.proofs.lemmas.List.{take_rest, get_or-drop}
pub use Rattle.std.specs.List.{concat, position_or_len, cons_option, AllByRecursion, prefix_len}
pub use Rattle.std.specs.Option.{option_map}
pub use Rattle.hc_base.specs.Bytes.{backslash, ends_with, lf, cr, space, tab, double_quote, single_quote}
pub use Rattle.hc_base.specs.Lines.{pieces, is_lf, onto_piece, is_blank}
pub use Rattle.hc_lines.specs.Logical.{joins, without_last, is_join, unjoined, onto_run, runs, before, line_at}
pub use Rattle.hc_lines.specs.Logical.{lines_from, then_lines, AreMaximal, AreRunsOf, IsCutIntoRuns, IsRun, all_of}
pub use Rattle.hc_lines.specs.Logical.{AreSpansFrom, broken_by, from_first, indent, is_nothing, line_of, read_as}
pub use Rattle.hc_lines.specs.Logical.{says_something, source, up_to_last, without_end}
unfoldable pub use Rattle.hc_lines.specs.Logical.{lines_of}
pub use Rattle.hc_lines.specs.Run.{after_run, first_run, StartsWith}
pub use Rattle.hc_lines.specs.Words.{First, is_backslash, nothing, unclosed, word, conf_spelling, first_word, is_quote}
pub use Rattle.hc_lines.specs.Words.{quoted_word, rewrite_spelling, skip_blanks, unescaped_blank, with_first, words_of}
pub use Rattle.hc_lines.specs.Words.{words_within, is_escapable_in, unescaped, unescaped_quote}
unfoldable pub use Rattle.hc_lines.specs.Words.{read_words}
pub use Rattle.hc_lines.specs.WordsView.{spelling_view, begins_escape, escapable_view, spelled_len, quote_view}
pub use Rattle.hc_lines.specs.WordsView.{first_view}
pub use denote.Shadow.{shadow}
pub use denote.Text.{Utf8}
