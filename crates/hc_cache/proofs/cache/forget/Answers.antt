use Rattle.std.proofs.Common.{ap, sym, ◌∙◌, arith}
use Rattle.hc_cache.specs.Views.{in_order}
use Rattle.hc_cache.proofs.Entries.{removed_behind}
use Rattle.hc_cache.proofs.cache.forget.Goals as goal

pub returns-in-Some-clause-entries : goal.returns-in-Some-clause-entries
returns-in-Some-clause-entries g c =
    ap (in_order c.args.oldest.now) c.in-Some.ensures.entries
    ∙ removed_behind g.K.PartialEq.eq c.args.key.now g.met.K.Eq.laws c.args.oldest.now c.in-Some.place
    c.args.ring.now.entries c.requires (sym c.in-Some.ensures.index) (omega (arith, c.if-place-oldest.false))
