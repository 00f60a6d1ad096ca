use Rattle.hc_pattern.proofs.Common.{◌||◌, ◌∙◌, ap, sym, map, has_byte, is_in_part, list_any, parts_of}
use Rattle.hc_pattern.proofs.Common.{or_assoc}
use Rattle.hc_pattern.specs.ClassViews.{part_view, placed_view}
use Rattle.hc_pattern.proofs.class.bytes_of.Goals as goal

pub members-preserved : goal.members-preserved
members-preserved c b =
    let more = list_any (is_in_part b) (parts_of (map placed_view c.in-Some.more.now)) in
    ap (λ v. v || more) (c.with_part-set.ensures b)
    ∙ or_assoc (has_byte c.members.set b) (is_in_part b (part_view c.in-Some.part)) more
    ∙ sym (ap (λ parts. has_byte c.members.set b || list_any (is_in_part b) parts) c.in-Some.ensures.value)
    ∙ c.members.invariant b
