use Rattle.std.proofs.Common.{◌+◌, ap, ◌∙◌}
use Rattle.hc_cache.specs.Views.{in_order}
use Rattle.indexmap.specs.IndexMap.{insert_entry, move_index}
use Rattle.hc_cache.proofs.Entries.{last_moved}
use Rattle.hc_cache.proofs.cache.put_last.Goals as goal

pub returns-then-oldest-gt0-clause-entries : goal.returns-then-oldest-gt0-clause-entries
returns-then-oldest-gt0-clause-entries g c =
    ap (in_order (c.args.oldest.now + 1)) (c.move_index.ensures.entries
    ∙ ap (λ es. move_index es c.len-last.result c.args.oldest.now) c.in_ok-insert.ensures.entries
    ∙ ap (λ n. move_index (insert_entry g.K.PartialEq.eq c.args.ring.now.entries c.args.key c.args.kept) n
    c.args.oldest.now) c.len-last.ensures.len)
    ∙ last_moved g.K.PartialEq.eq c.args.ring.now c.args.key c.args.kept c.args.oldest.now c.requires.absent
    c.requires.place
