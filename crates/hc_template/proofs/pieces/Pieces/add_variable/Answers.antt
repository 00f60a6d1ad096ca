use Rattle.std.proofs.Common.{refl, sym, ◌∙◌}
use Rattle.hc_model.specs.declared.template.Piece.TheVariants.{Var}
use Rattle.hc_template.proofs.Runs.{piece_added}
use Rattle.hc_template.proofs.pieces.Pieces.add_variable.Goals as goal

pub returns-in_ok-add_piece-in-Some : goal.returns-in_ok-add_piece-in-Some
returns-in_ok-add_piece-in-Some c =
    let added = c.in_ok-add_piece-in-Some.ensures in
    rw (sym c.in_ok-var.ensures ∙ c.in-Some.is)
    (piece_added c.args.self.now c.add_piece.new.self (Var c.in-Some.var) (λ b pieces. refl) added.done added.run)
