use Rattle.hc_abs_rw.proofs.Common.{subst}
use Rattle.hc_abs_rw.specs.Elements.{AreElementsOf}
use Rattle.hc_abs_rw.specs.Known.{frame_at}
use Rattle.hc_abs_rw.specs.Looks.{IsKnownText, IsValue, IsValues, KnownAs, NoneKnown}
use Rattle.hc_abs_rw.proofs.Keyed.{known_looks, open_looks}
use Rattle.hc_abs_rw.proofs.looks.look_up.Goals as goal

pub returns-in-Some : goal.returns-in-Some
returns-in-Some g c =
    let frame = frame_at g.S.Surroundings.kind g.S.Surroundings.values c.args.frame.now in
    let known = c.args.known.now in
    let keys = c.in_ok-keys.keys.items in
    let fallbacks = c.in_ok-fallbacks.fallbacks.items in
    let made = c.in_ok-made-in-Some.made in
    known_looks frame c.args.frame.now.client known c.args.name.now c.args.key.now c.args.fallback.now keys fallbacks
    (subst (λ pieces. AreElementsOf frame c.args.frame.now.client known pieces keys) c.as_slice.ensures
    c.in_ok-keys.ensures)
    (subst (λ pieces. AreElementsOf frame c.args.frame.now.client known pieces fallbacks) c.as_slice-2.ensures
    c.in_ok-fallbacks.ensures)
    made c.in-Some.text
    (subst (λ elements. KnownAs known.cell elements c.in-Some.text) c.deref.ensures.value
    (subst (IsKnownText known.cell c.deref.result.now) c.in-Some.is c.in_ok-text.ensures))
    (subst (λ elements. IsValue known.cell (frame.values c.args.name.now c.in-Some.text) elements made)
    c.deref-in-Some.ensures.value c.in_ok-made-in-Some.ensures)

pub returns : goal.returns
returns g c =
    let frame = frame_at g.S.Surroundings.kind g.S.Surroundings.values c.args.frame.now in
    let known = c.args.known.now in
    let keys = c.in_ok-keys.keys.items in
    let fallbacks = c.in_ok-fallbacks.fallbacks.items in
    let made = c.in_ok-made-in-None.made in
    open_looks frame c.args.frame.now.client known c.args.name.now c.args.key.now c.args.fallback.now keys fallbacks
    (subst (λ pieces. AreElementsOf frame c.args.frame.now.client known pieces keys) c.as_slice.ensures
    c.in_ok-keys.ensures)
    (subst (λ pieces. AreElementsOf frame c.args.frame.now.client known pieces fallbacks) c.as_slice-2.ensures
    c.in_ok-fallbacks.ensures)
    made
    (subst (NoneKnown known.cell) c.deref.ensures.value
    (subst (IsKnownText known.cell c.deref.result.now) c.in-None.is c.in_ok-text.ensures))
    (subst (λ elements. IsValues known.cell (frame.values c.args.name.now) elements fallbacks made)
    c.deref-in-None.ensures.value
    (subst (λ elements. IsValues known.cell (frame.values c.args.name.now) c.deref-in-None.result.now elements made)
    c.deref-in-None-2.ensures.value c.in_ok-made-in-None.ensures))
