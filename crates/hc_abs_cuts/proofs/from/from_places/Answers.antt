use Rattle.std.proofs.Common.{arith}
use Rattle.std.proofs.lemmas.Iterator.Adapters.{YieldsList-from_vec}
use Rattle.std.proofs.lemmas.Iterator.Consumers.{YieldsList-end}
use Rattle.std.proofs.lemmas.List.{map-id}
use Rattle.hc_abs_cuts.proofs.Common.{◌∙◌, subst, sym}
use Rattle.hc_abs_cuts.proofs.Going.{one_place_more}
use Rattle.hc_abs_cuts.specs.Coded.{AreFromPlacesIn}
use Rattle.hc_abs_cuts.proofs.from.from_places.Goals as goal

pub loop-place-init : goal.loop-place-init
loop-place-init c = c.new-found.ensures.items

pub loop-place-preserved : goal.loop-place-preserved
loop-place-preserved c =
    one_place_more c.args.ground c.args.dir.now c.loop-place.yielded c.in-Some.place c.loop-place.found.items
    c.in_ok-more.more.items c.append.new.self.items c.loop-place.invariant c.in_ok-append.ensures.items
    c.in_ok-more.ensures

pub returns : goal.returns
returns c =
    let gives = c.into_iter-place-iterator.ensures.into_iter_gives in
    let end = YieldsList-end (YieldsList-from_vec {s = c.into_iter-place-iterator.result} c.args.places.items gives.0
    (let same = gives.1 in omega (arith, same))) c.loop-place.yielded
    c.loop-place.place-iterator c.loop-place.yielded_by c.next.result c.next.new.self c.in-None.is
    c.next.ensures.steps in
    subst (λ places. AreFromPlacesIn c.args.ground c.args.dir.now places c.loop-place.found.items)
    (sym (map-id c.loop-place.yielded) ∙ end.0) c.loop-place.invariant
