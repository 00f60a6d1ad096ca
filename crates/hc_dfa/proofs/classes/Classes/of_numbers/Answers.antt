use Rattle.std.proofs.Common.{◌≡◌, length, arith}
use Rattle.hc_dfa.proofs.Grouped.{grouped_new}
use Rattle.hc_dfa.proofs.classes.Classes.of_numbers.Goals as goal

pub loop-byte-preserved : goal.loop-byte-preserved
loop-byte-preserved c =
    let last : c.class_like-class.result ≡ length c.loop-byte.firsts.items =
    (let w = c.class_like-class.ensures.within in omega arith) in
    rw (c.in_ok-push.ensures.items, c.in_ok-push-2.ensures.items, last)
    (grouped_new c.args.numbers.now c.loop-byte.byte
    (record { classes = c.loop-byte.classes.items; firsts = c.loop-byte.firsts.items }) c.loop-byte.invariant)
