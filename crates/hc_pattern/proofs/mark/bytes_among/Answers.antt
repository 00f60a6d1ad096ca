use Rattle.hc_pattern.proofs.Common.{◌||◌, ◌∙◌, ap, sym, has_byte, is_among, is_in, ranges_of, or_assoc}
use Rattle.hc_pattern.proofs.mark.bytes_among.Goals as goal

pub members-preserved : goal.members-preserved
members-preserved c b =
    let more = is_among b (ranges_of c.in-Some.more.now) in
    ap (λ v. v || more) (c.with_range-set.ensures b) ∙ or_assoc (has_byte c.members.set b) (is_in b c.in-Some.range)
    more
    ∙ sym (ap (λ ranges. has_byte c.members.set b || is_among b ranges) c.in-Some.ensures.value)
    ∙ c.members.invariant b
