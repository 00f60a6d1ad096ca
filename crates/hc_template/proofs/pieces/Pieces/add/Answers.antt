use Rattle.std.proofs.Common.{refl}
use Rattle.hc_model.specs.declared.template.Piece.TheVariants.{CondGroup, Group}
use Rattle.hc_template.proofs.Runs.{byte_added, piece_added}
use Rattle.hc_template.proofs.pieces.Pieces.add.Goals as goal

pub returns-in_ok-push-in-Byte : goal.returns-in_ok-push-in-Byte
returns-in_ok-push-in-Byte c =
    rw c.in-Byte.is
    (byte_added c.args.self.now (record { done = c.args.self.now.done; run = c.push.new.self }) c.in-Byte.byte refl
    c.in_ok-push-in-Byte.ensures.items)

pub returns-in_ok-add_piece-in-Group : goal.returns-in_ok-add_piece-in-Group
returns-in_ok-add_piece-in-Group c =
    let added = c.in_ok-add_piece-in-Group.ensures in
    rw c.in-Group.is
    (piece_added c.args.self.now c.add_piece.new.self (Group c.in-Group.number) (λ b pieces. refl) added.done
    added.run)

pub returns-in_ok-add_piece-in-Condition : goal.returns-in_ok-add_piece-in-Condition
returns-in_ok-add_piece-in-Condition c =
    let added = c.in_ok-add_piece-in-Condition.ensures in
    rw c.in-Condition.is
    (piece_added c.args.self.now c.add_piece-in-Condition.new.self (CondGroup c.in-Condition.number) (λ b pieces. refl)
    added.done added.run)
