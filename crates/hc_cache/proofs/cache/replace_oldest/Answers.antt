use Rattle.std.proofs.Common.{arith, sym, ◌∙◌, ap, slice_get}
use Rattle.hc_cache.proofs.Entries.{oldest_replaced}
use Rattle.hc_cache.proofs.cache.replace_oldest.Goals as goal

pub returns-then-last-gt0-clause-entries : goal.returns-then-last-gt0-clause-entries
returns-then-last-gt0-clause-entries g c =
    oldest_replaced g.K.PartialEq.eq c.args.ring.now c.args.key c.args.kept c.args.oldest.now c.requires.absent
    (c.requires.place (omega (arith, c.len-last.ensures.len, c.if-last-gt0.true)))
    c.swap_remove_index.result c.swap_remove_index.new.self.entries
    (c.swap_remove_index.ensures.entry ∙ ap (λ es. slice_get es c.args.oldest.now) c.in_ok-insert.ensures.entries)
    (rw (sym c.in_ok-insert.ensures.entries) c.swap_remove_index.ensures.entries)
