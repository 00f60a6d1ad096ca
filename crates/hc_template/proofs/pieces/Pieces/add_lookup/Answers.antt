use Rattle.std.proofs.Common.{ap, refl, sym}
use Rattle.hc_template.specs.Fronts.{piece_of}
use Rattle.hc_template.proofs.Runs.{piece_added}
use Rattle.hc_template.proofs.pieces.Pieces.add_lookup.Goals as goal

pub returns : goal.returns
returns c =
    let is = c.in_ok-lookup.ensures in
    let added = c.in_ok-add_piece.ensures in
    let alone = piece_added c.args.self.now c.add_piece.new.self (piece_of c.in_ok-lookup.lookup) (λ b pieces. refl)
    added.done added.run in
    (rw (ap (λ cut. cut.part) is) alone, sym (ap (λ cut. cut.behind) is))
