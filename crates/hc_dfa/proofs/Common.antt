-- The names that the proofs of this crate cite, passed on from one place. Declares nothing.
pub use Rattle.std.proofs.Common.{◌≡◌, ℕ, ◌+◌, ◌*◌, ◌<◌, ◌≤◌, ◌/◌, ◌%◌, ◌⊎◌}
pub use Rattle.std.proofs.Common.{◌↔◌}
pub use Rattle.std.proofs.Common.{nat_eq, List, [], ◌∷◌, length, take, drop, slice_index, false, refl, ◌∙◌}
pub use Rattle.std.proofs.Common.{ap}
pub use Rattle.std.proofs.Common.{inl, inr, arith, drop-cons, add-one, sym, ◌||◌, subst, not, count_by, length-set}
pub use Rattle.std.proofs.Common.{slice_index_or, slice_set, Bool, true, get_or-set_same, get_or-set_other, slice_get}
pub use Rattle.std.proofs.Common.{Some, Vec, ◌&&◌, IsTrue, ◌++◌, length-append, Option, None, ◌-◌, map}
pub use Rattle.std.proofs.Common.{get_or, rules, ◌^◌, if◌then◌else◌, vec_len, ◌==◌, append_assoc}
pub use Rattle.std.proofs.Common.{append-nil, suc, zero}
pub use Rattle.std.proofs.Math.Nat.{div-add-mod, add-mul}
pub use Rattle.std.proofs.Math.Seq.{get_or-append_seam}
pub use Rattle.std.proofs.lemmas.Grind.{common_steps, same_number_lists}
pub use Rattle.std.proofs.lemmas.List.{get_or_default, get_or_append_left, get_or-map, length-map}
pub use Rattle.std.proofs.lemmas.Nat.{div-mul-add, mod-mul-add, mul-add-lt}
pub use Rattle.std.proofs.lemmas.Option.{slice_get_within, slice_get-get_or, slice_get_cases, get_or_from_slice_get}
pub use Rattle.std.specs.Cmp.Lexicographic.{pointwise, same_text, other_text}
pub use Rattle.std.specs.List.{AllByRecursion, Contains, list_any}
pub use Rattle.std.specs.declared.alloc.Global.{Global}
pub use Rattle.hc_dfa.specs.Automata.{Automaton, next_state, accepts_from, states, value_on, is_final, IsTable, run}
unfoldable pub use Rattle.hc_dfa.specs.Automata.{accepts}
pub use Rattle.hc_dfa.specs.Blocks.{RespectsFinals, Refines, IsStable, AreLeaders, IsSignature, Represents}
pub use Rattle.hc_dfa.specs.Built.{Accepts, AreFirst, IsInOrder, product_of, Includes, inclusion_of, kept}
pub use Rattle.hc_dfa.specs.Built.{AcceptsImages, complement_of}
pub use Rattle.hc_dfa.specs.Classings.{Classing, IsAsFine, AreClasses, AreColumns, IsColumn, Tells, TellsByNumber}
pub use Rattle.hc_dfa.specs.Classings.{class_of, class_count, first_of, AreClassesBelow, IsRows}
unfoldable pub use Rattle.hc_dfa.specs.Classings.{expanded}
pub use Rattle.hc_dfa.specs.Distances.{Bounds, Distances, IsNearest, IsSettled, IsWalk}
pub use Rattle.hc_dfa.specs.Explored.{Extends, IsMet, Leads, Explored}
pub use Rattle.hc_dfa.specs.Machines.{Reads, LeadsBy, HasStep, AddsStep, Goes, IsFinal, IsMachine, PathToFinal}
pub use Rattle.hc_dfa.specs.Machines.{AcceptsPaths, IsOneStep, Grows}
pub use Rattle.hc_dfa.specs.Pairs.{IsPair, pair_step}
pub use Rattle.hc_dfa.specs.Sets.{AreChanges, ArePieces, AreStates, FollowsTo, Gathers, GathersAll, Has, IsClosed}
pub use Rattle.hc_dfa.specs.Sets.{IsClosure, IsMark, IsMarked, IsProper, IsRead, IsStep, LeadsTo, Marks, SilentPath}
pub use Rattle.hc_dfa.specs.Sets.{TellsSteps}
pub use Rattle.hc_dfa.specs.Sets.SilentPath.{stays, goes_on}
pub use Rattle.hc_dfa.specs.Singles.{single, single_step, is_among, AreFound}
pub use Rattle.hc_dfa.specs.Texts.{IsText, TextSet, IsEmptySet, IsLeast, comes_before, byte_order, IsLeastOf}
pub use Rattle.hc_dfa.specs.declared.leasts.TheConstants.{NONE}
pub use Rattle.hc_dfa.specs.declared.machine.Bytes.{Bytes}
pub use Rattle.hc_dfa.specs.declared.machine.Machine.{Machine}
pub use Rattle.hc_dfa.specs.declared.machine.Step.{Step}
pub use Rattle.hc_dfa.specs.declared.products.Keep.TheVariants.{FirstOnly, Both}
