use Rattle.hc_dfa.specs.Automata.{accepts}
use Rattle.hc_sent.proofs.Chaining.{one_taken}
use Rattle.hc_sent.proofs.MadeSets.{sets_more}
use Rattle.hc_sent.proofs.making.piece_sets.Goals as goal

pub loop-piece-preserved : goal.loop-piece-preserved
loop-piece-preserved c =
    let pieces = c.args.pieces.now in
    let at = c.loop-piece.piece-index in
    sets_more (accepts c.args.paths.now) c.args.from.now pieces at c.piece-item.result c.loop-piece.sets.items
    c.in_ok-piece_set.field-0 c.push.new.self.items
    (one_taken pieces at c.piece-item.result c.loop-piece-test.true c.piece-item.is)
    c.in_ok-push.ensures.items c.loop-piece.invariant c.in_ok-piece_set.ensures
