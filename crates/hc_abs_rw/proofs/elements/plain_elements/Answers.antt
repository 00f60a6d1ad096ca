use Rattle.hc_abs_rw.proofs.Common.{◌∙◌, ◌≡◌, ◌++◌, ◌∷◌, [], arith, ap, subst, sym}
use Rattle.std.proofs.Common.{take, take_all}
use Rattle.std.proofs.lemmas.List.{take_more}
use Rattle.hc_abs_rw.specs.Elements.{AreElementsOf, IsElementOf}
use Rattle.hc_abs_rw.specs.Known.{frame_at}
use Rattle.hc_abs_rw.proofs.Knowing.{fits_more}
use Rattle.hc_abs_rw.proofs.elements.plain_elements.Goals as goal

pub loop-piece-init : goal.loop-piece-init
loop-piece-init g c = c.new-elements.ensures.items

pub loop-piece-preserved : goal.loop-piece-preserved
loop-piece-preserved g c =
    let pieces = c.args.pieces.now in
    let i = c.loop-piece.piece-index in
    fits_more (IsElementOf (frame_at g.S.Surroundings.kind g.S.Surroundings.values c.args.frame.now) c.args.frame.now.client
    c.args.known.now) pieces i c.piece-item.result c.loop-piece.elements.items c.in_ok-plain_element.field-0 c.push.new.self.items
    (take_more pieces i c.piece-item.result c.loop-piece-test.true
    ∙ ap (λ piece. take i pieces ++ piece ∷ []) (sym c.piece-item.is))
    c.in_ok-push.ensures.items c.loop-piece.invariant c.in_ok-plain_element.ensures

pub returns : goal.returns
returns g c =
    let all : take c.loop-piece.piece-index c.args.pieces.now ≡ c.args.pieces.now = grind (arith, take_all) in
    subst (λ pieces. AreElementsOf (frame_at g.S.Surroundings.kind g.S.Surroundings.values c.args.frame.now)
    c.args.frame.now.client c.args.known.now pieces c.loop-piece.elements.items) all c.loop-piece.invariant
