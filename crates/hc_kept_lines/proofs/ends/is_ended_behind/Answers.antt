use Rattle.std.proofs.Common.{arith, ap, sym, ◌∙◌, not, true, false, slice_index_or, refl}
use Rattle.hc_kept_lines.proofs.Ending.{lf_isnt, one_behind, two_behind}
use Rattle.hc_kept_lines.proofs.ends.is_ended_behind.Goals as goal

pub returns-then-byte-eq10 : goal.returns-then-byte-eq10
returns-then-byte-eq10 c = ap not c.ends_with.ensures
    ∙ sym (one_behind c.args.front.now c.args.back.now (omega (arith, c.in-len1.len_at_least, c.in-len1.len_below)) true
    (rw c.if-byte-eq10.true refl))

pub returns-else-byte-eq10 : goal.returns-else-byte-eq10
returns-else-byte-eq10 c =
    let isnt = lf_isnt (slice_index_or c.args.back.now 0 0) c.if-byte-eq10.false in
    isnt
    ∙ sym (one_behind c.args.front.now c.args.back.now (omega (arith, c.in-len1.len_at_least, c.in-len1.len_below)) false
    isnt)

pub returns-in_default : goal.returns-in_default
returns-in_default c = c.is_ended-in_default.ensures
    ∙ sym (two_behind c.args.front.now c.args.back.now (omega (arith, c.in_default.len_at_least)))
