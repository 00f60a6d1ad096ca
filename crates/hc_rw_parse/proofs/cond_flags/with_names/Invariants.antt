use Rattle.std.proofs.Common.{◌≡◌, length, drop, Ok}
use Rattle.std.specs.List.{slice_split}
use Rattle.hc_rw_parse.specs.CondFlags.{no_cond_flags, with_names}
use Rattle.hc_rw_parse.specs.RuleFlags.{is_comma}
use Rattle.hc_rw_parse.proofs.cond_flags.with_names.Given as goal

abbrev pub invariant-loop-name : goal.invariant-loop-name
invariant-loop-name l = record {
  can : (goal.iterator-loop-name).can_next l.name-iterator;
  finite : (goal.iterator-loop-name).is_finite l.name-iterator;
  rest : with_names (Ok l.flags) (drop (length l.yielded) (slice_split is_comma l.names))
      ≡ with_names (Ok no_cond_flags)
      (slice_split is_comma l.names);
}
