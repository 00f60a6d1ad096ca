use Rattle.std.proofs.Common.{◌∙◌, ◌≡◌, ◌++◌, ◌∷◌, [], arith, ap, subst, sym}
use Rattle.std.proofs.Common.{take, take_all}
use Rattle.std.proofs.lemmas.List.{take_more}
use Rattle.hc_abs_rw.proofs.Knowing.{fits_more}
use Rattle.hc_abs_view.specs.Seen.{ArePiecesOf, IsPieceOf}
use Rattle.hc_abs_view.proofs.elements.elements_of.Goals as goal

pub loop-piece-init : goal.loop-piece-init
loop-piece-init c = c.new-elements.ensures.items

pub loop-piece-preserved : goal.loop-piece-preserved
loop-piece-preserved c =
    let pieces = c.args.pieces.now in
    let i = c.loop-piece.piece-index in
    fits_more (IsPieceOf c.args.scene) pieces i c.piece-item.result c.loop-piece.elements.items c.in_ok-element.field-0
    c.push.new.self.items
    (take_more pieces i c.piece-item.result c.loop-piece-test.true
    ∙ ap (λ piece. take i pieces ++ piece ∷ []) (sym c.piece-item.is))
    c.in_ok-push.ensures.items c.loop-piece.invariant c.in_ok-element.ensures

pub returns : goal.returns
returns c =
    let all : take c.loop-piece.piece-index c.args.pieces.now ≡ c.args.pieces.now = grind (arith, take_all) in
    subst (λ pieces. ArePiecesOf c.args.scene pieces c.loop-piece.elements.items) all c.loop-piece.invariant
