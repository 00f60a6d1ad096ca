-- The names that the proofs of this crate cite, passed on from one place. Declares nothing.
pub use Rattle.std.proofs.Common.{append-nil, ◌≡◌, ℕ, zero, suc, ◌+◌, ◌<◌, ◌≤◌, inl, inr, Bool}
pub use Rattle.std.proofs.Common.{true, false, List, [], ◌∷◌, ◌++◌, length, Option, Some, None, map}
pub use Rattle.std.proofs.Common.{if◌then◌else◌, get_or, nat_lt, lt-ltb, le-ltb, slice_get, slice_set, refl, sym}
pub use Rattle.std.proofs.Common.{ap, ◌∙◌, arith, ◌-◌, option_map, true≢false, ◌⊎◌, append_assoc}
pub use Rattle.std.proofs.Common.{IfSome, eqb, eq-eqb, eqb-true, ne_eqb, drop, ◌/◌, take, unwrap_or, nat_eq, max}
pub use Rattle.std.proofs.Common.{subst, ◌*◌, ◌%◌, bit_and}
pub use Rattle.std.proofs.lemmas.List.{length-append, length-set, get_or_read}
pub use Rattle.std.proofs.lemmas.Option.{slice_get-get_or, slice_get_past, none-some, same_Some}
pub use Rattle.std.specs.List.{flat_map, fold}
pub use Rattle.std.specs.Option.{option_or, option_eq}
pub use Rattle.hc_match.specs.Frames.{Says, less_than, preferring, frame_ways, turns_ways}
pub use Rattle.hc_match.specs.Pairs.{AllFail, Fails, HasEnded, Stands, kept_now, IsPair, Leads, Reached, move_ways}
pub use Rattle.hc_match.specs.Pairs.{other_ways, past, IsSearch, kept_in}
pub use Rattle.hc_match.specs.Program.{Compiles, Extends, HasMeaning, IsAdded, IsMeaning, Kept, Meaning, NamesBelow}
pub use Rattle.hc_match.specs.Program.{closed_at, keeping_held, kept_ways, opened, step_ways, turn_step, nothing_kept}
pub use Rattle.hc_match.specs.Program.{kept_past, Means}
pub use Rattle.hc_match.specs.Runs.{ends, first_end, further_turns, other_first, run_length}
pub use Rattle.hc_match.specs.Settings.{held_over}
pub use Rattle.hc_match.specs.Single.{is_first}
pub use Rattle.hc_match.specs.declared.paths.Passed.{Passed}
pub use Rattle.hc_match.specs.declared.program.Step.{Step}
pub use Rattle.hc_pattern.proofs.Nodes.{is_alt, is_byte, is_cat, is_class, is_empty, is_finish, is_group, is_repeat}
pub use Rattle.hc_pattern.proofs.Nodes.{is_start}
pub use Rattle.hc_pattern.specs.Bits.{has_byte}
pub use Rattle.hc_pattern.specs.Pattern.{Pattern, cat, alt, group, repeat, pattern_of}
pub use Rattle.hc_ways.proofs.Behind.{same_ways, behind-behind, behind-either, behind-preferred, behind-stop}
pub use Rattle.hc_ways.proofs.Behind.{stop-behind, turn_or_next}
pub use Rattle.hc_ways.proofs.Lists.{flat_map-filter}
pub use Rattle.hc_ways.specs.Kept.{Held, first_of, held_by, match_among, match_at, with_group, last_ways, nothing_held}
pub use Rattle.hc_ways.specs.Kept.{first_match}
pub use Rattle.hc_ways.specs.Ways.{Way, Ways, any_turns, behind, closed, either, grouped, meets, moving, none}
pub use Rattle.hc_ways.specs.Ways.{preferred, repeated, stop, turns_then, turns_up_to, step_where, stop_where}
pub use Rattle.hc_ways.specs.Taking.{takes_a_byte}
