use Rattle.hc_target.proofs.Common.{◌≡◌, length, drop, Some, slice_split, is_slash, root, led_by}
use Rattle.hc_target.proofs.segments.descend.Given as goal

abbrev pub invariant-loop-segment : goal.invariant-loop-segment
invariant-loop-segment l = record {
  can : (goal.iterator-loop-segment).can_next l.segment-iterator;
  finite : (goal.iterator-loop-segment).is_finite l.segment-iterator;
  rest : led_by (Some l.place) (drop (length l.yielded) (slice_split is_slash l.path)) ≡ led_by (Some root)
      (slice_split is_slash l.path);
}
