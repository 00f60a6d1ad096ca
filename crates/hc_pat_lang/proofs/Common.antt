-- The names that the proofs of this crate cite, passed on from one place. Declares nothing.
pub use Rattle.std.proofs.Common.{◌≡◌, ℕ, ◌+◌, ◌<◌, ◌≤◌, ◌⊎◌, List, [], ◌∷◌, ◌++◌}
pub use Rattle.std.proofs.Common.{true, false, refl, sym, ◌∙◌, ap, subst, inl, inr, arith, zero, suc, ◌-◌}
pub use Rattle.std.proofs.Common.{Bool, length, if◌then◌else◌, nat_lt, nat_eq, max, Option, Some, None, slice_get}
pub use Rattle.std.proofs.Common.{eqb-true, map, slice_index_or, ◌≢◌, slice_set, length-append, add-one, le-ltb}
pub use Rattle.std.proofs.Common.{◌↔◌, take, drop, lt-ltb, eq-eqb, ◌||◌, ltb-true, ◌&&◌, lit<, filter}
pub use Rattle.std.proofs.Common.{◌*◌, rules}
pub use Rattle.std.proofs.lemmas.Bool.Decides.{eqb_tells}
pub use Rattle.std.proofs.lemmas.List.Elements.{Contains-append_left, Contains-push, Contains-push_cases}
pub use Rattle.std.proofs.lemmas.Option.{slice_get_within, slice_get-get_or}
pub use Rattle.std.specs.List.{Contains, AllByRecursion, flat_map}
pub use Rattle.std.specs.Prelude.{IsSome, is_some}
pub use Rattle.hc_base.specs.declared.place.Span.{Span}
pub use Rattle.hc_dfa.proofs.Runs.{IsAutomaton, next_within}
pub use Rattle.hc_dfa.specs.Automata.{Automaton, next_state, is_final, states, accepts_from, run}
unfoldable pub use Rattle.hc_dfa.specs.Automata.{accepts}
pub use Rattle.hc_dfa.specs.Explored.{Extends}
pub use Rattle.hc_dfa.specs.Texts.{TextSet, IsText, IsLeastOf}
pub use Rattle.hc_pat_lang.specs.Found.{MayHold, IsGroupText, IsFound}
pub use Rattle.hc_pat_lang.specs.Fragments.{Exists, point_at, Serves, KnowsEnds, KeepsEnd, KeepsEnds, IsBelow, IsReady}
pub use Rattle.hc_pat_lang.specs.Fragments.{IsFragment, IsLooped, LeadsTo, KnowsEnd, TakesRest, AreTurns}
pub use Rattle.hc_pat_lang.specs.Gates.{alone_gate, nowhere, nowhere_gate, finish_point, finish_gate, IsStep, IsFork}
pub use Rattle.hc_pat_lang.specs.Gates.{IsJoin, anything}
pub use Rattle.hc_pat_lang.specs.Matching.{IsFull, LooksFor, first_nodes}
pub use Rattle.hc_pat_lang.specs.Graphs.{IsMarked, ReadsMarked, ReadsNode, byte_of, marks, unmarked}
pub use Rattle.hc_pat_lang.specs.Nodes.{Takes, AreNodes}
pub use Rattle.hc_pat_lang.specs.Sets.{AcceptsOnly, AreJoined, IsBehind, IsJoined, IsMerged, IsRest, IsFront}
pub use Rattle.hc_pat_lang.specs.Turned.{leaves_out, part_ways, seen, step_by, chosen_any, chosen_behind, chosen_then}
pub use Rattle.hc_pat_lang.specs.Turned.{chosen_up_to, chosen_ways, step_node, group_ways, seen_in, marked_byte}
pub use Rattle.hc_pat_lang.specs.Turned.{plain_byte, chosen_repeated, has_turn}
pub use Rattle.hc_pat_lang.specs.declared.gates.Gate.{Gate}
pub use Rattle.hc_pat_lang.specs.declared.gates.GroupPart.{GroupPart}
pub use Rattle.hc_pat_lang.specs.declared.gates.GroupPart.TheVariants.{Outside, Inside, Without}
pub use Rattle.hc_pat_lang.specs.declared.gates.Point.{Point}
pub use Rattle.hc_pat_lang.specs.declared.nodes.Node.{Node}
pub use Rattle.hc_pat_lang.specs.declared.nodes.Node.TheVariants.{Dead, End, Step, Marked, Fork}
pub use Rattle.hc_pattern.specs.Bits.{has_byte}
pub use Rattle.hc_pattern.specs.Pattern.{Pattern, empty, byte, class, start, finish, cat, alt, group, repeat}
pub use Rattle.hc_pattern.specs.Pattern.{pattern_of}
pub use Rattle.hc_pattern.specs.declared.set.ByteSet.{ByteSet}
pub use Rattle.hc_ways.proofs.Lists.{Each-append, Each-filter, Each-flat_map, Each-map}
pub use Rattle.hc_ways.proofs.Behind.{behind-behind, behind-preferred, behind-stop, turn_or_next, same_ways}
pub use Rattle.hc_ways.proofs.Turns.{Below, Bounded, any_turns_is, bounded, bounded_behind, bounded_either, bounded_if}
pub use Rattle.hc_ways.proofs.Turns.{bounded_repeated, bounded_stop, enough_turns}
pub use Rattle.hc_ways.specs.Kept.{Turns, with_turn, all_ways, Held, first_match, first_of, held_after, held_by}
pub use Rattle.hc_ways.specs.Kept.{last_of_turns, match_among, match_at, nothing_held, with_group}
pub use Rattle.hc_ways.specs.Ways.{Ways, none, stop, behind, either, meets, closed, preferred, moving, any_turns}
pub use Rattle.hc_ways.specs.Ways.{turns_up_to, turns_then, repeated, Way, grouped, stop_where, step_where}
pub use Rattle.hc_ways.specs.Taking.{takes_a_byte}
