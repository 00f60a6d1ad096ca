use Rattle.hc_world.proofs.Common.{◌≡◌, ◌∙◌, ◌++◌, ◌∷◌, [], true, false, nat_eq, sym, ap, rules}
use Rattle.hc_world.proofs.Common.{starts_with, append-nil, keys_from}
use Rattle.std.proofs.lemmas.List.{map-append}
use Rattle.hc_world.specs.Drops.{below, paths_of}
use Rattle.hc_world.proofs.Drops.{begins, within_end, within_init, within_step}
use Rattle.hc_world.proofs.Places.{GoesOn-behind, fewer_left}
use Rattle.hc_world.proofs.drop.paths_within.Goals as goal

pub loop-below-init : goal.loop-below-init
loop-below-init c =
    let path = c.args.path.now in
    let world = c.args.nodes.now in
    let copied : c.in_ok-to_vec.field-0.items ≡ path = search rules in
    let pushed : c.push.new.self.items ≡ c.in_ok-to_vec.field-0 ∷ [] = search rules in
    let init = within_init world path c.in_ok-place.place.items c.in_ok-place.ensures in (
      ap (λ ps. ps ++ below path (keys_from c.in_ok-place.place.items world))
          (ap paths_of pushed ∙ ap (λ p. p ∷ []) copied) ∙ init.0,
      init.1,
    )

pub loop-below-preserved : goal.loop-below-preserved
loop-below-preserved c =
    let path = c.args.path.now in
    let world = c.args.nodes.now in
    let found = c.in-Some.below.now in
    let next = c.in_ok-place-2.place.items in
    let before = c.loop-below.paths.items in
    let copied : c.in_ok-to_vec-2.field-0.items ≡ found = search rules in
    let pushed : c.push-in-Some.new.self.items ≡ before ++ c.in_ok-to_vec-2.field-0 ∷ [] = search rules in
    let starts : begins path found ≡ true =
    sym (c.if-not-starts_with.ensures.value
    ∙ ap (starts_with nat_eq found) (c.deref.ensures.value ∙ c.in_ok-front.ensures)) in
    let step = within_step world path c.loop-below.place.items found next (paths_of before) c.loop-below.invariant.0
    c.in-Some.ensures.some starts c.in_ok-place-2.ensures in (
      ap (λ ps. ps ++ below path (keys_from next world))
          (ap paths_of pushed ∙ map-append (λ p. p.items) before (c.in_ok-to_vec-2.field-0 ∷ [])
          ∙ ap (λ p. paths_of before ++ p ∷ []) copied) ∙ step.0,
      step.1,
    )

pub loop-below-smaller : goal.loop-below-smaller
loop-below-smaller c =
    let found = c.in-Some.below.now in
    let next = c.in_ok-place-2.place.items in
    fewer_left [] c.loop-below.place.items found next c.args.nodes.now c.in-Some.ensures.some
    (GoesOn-behind [] found next c.in_ok-place-2.ensures)

pub returns-then-not-starts_with : goal.returns-then-not-starts_with
returns-then-not-starts_with c =
    let path = c.args.path.now in
    let world = c.args.nodes.now in
    let found = c.in-Some.below.now in
    let starts : begins path found ≡ false =
    sym (c.if-not-starts_with.ensures.value
    ∙ ap (starts_with nat_eq found) (c.deref.ensures.value ∙ c.in_ok-front.ensures)) in
    within_end world path c.loop-below.place.items found (paths_of c.loop-below.paths.items) c.loop-below.invariant.0
    c.loop-below.invariant.1 c.in-Some.ensures.some starts

pub returns : goal.returns
returns c =
    let path = c.args.path.now in
    let none : keys_from c.loop-below.place.items c.args.nodes.now ≡ [] = search rules in
    sym (append-nil (paths_of c.loop-below.paths.items))
    ∙ ap (λ ks. paths_of c.loop-below.paths.items ++ below path ks) (sym none) ∙ c.loop-below.invariant.0
