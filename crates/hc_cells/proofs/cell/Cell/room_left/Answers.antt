use Rattle.hc_cells.proofs.Common.{◌≡◌, ◌∙◌, ap, arith, sym, length, ◌+◌, take, length-map, ◌++◌, ◌∷◌, [], iter_turn, iter_end}
use Rattle.hc_cells.proofs.Common.{deref_pair, states, states_in, sum_by-take-le}
use Rattle.std.proofs.Common.{take_all}
use Rattle.hc_cells.proofs.Places.{no_room, place_shown, some_room, takes_more}
use Rattle.hc_cells.proofs.cell.Cell.room_left.Goals as goal

pub returns-then-left-states : goal.returns-then-left-states
returns-then-left-states c =
    let turn = iter_turn deref_pair _ _ _ _ _ _ c.into_iter-slot-iterator.ensures.into_iter_gives.0 c.sets.yielded_by
    _ c.in-Some.is c.next.ensures.steps in
    let more = takes_more c.args.self.now c.sets.yielded (c.in-Some._slot, c.in-Some.set) _ _ _ c.from-states.result
    (place_shown _ _ c.sets-slot-items.ensures _ _ turn.1)
    (c.from-states.ensures ∙ c.states.ensures.value ∙ ap states (c.set.ensures ∙ c.as_ref.ensures)) c.sets.invariant in
    let most = sum_by-take-le (λ e. states e.1) c.args.self.now (length (c.sets.yielded ++ (c.in-Some._slot, c.in-Some.set) ∷ [])) in
    let less = c.if-left-states.true in
    sym (no_room c.args.room _ (omega (arith, more, most, less)))

pub sets-preserved : goal.sets-preserved
sets-preserved c =
    let turn = iter_turn deref_pair _ _ _ _ _ _ c.into_iter-slot-iterator.ensures.into_iter_gives.0 c.sets.yielded_by
    _ c.in-Some.is c.next.ensures.steps in
    let more = takes_more c.args.self.now c.sets.yielded (c.in-Some._slot, c.in-Some.set) _ _ _ c.from-states.result
    (place_shown _ _ c.sets-slot-items.ensures _ _ turn.1)
    (c.from-states.ensures ∙ c.states.ensures.value ∙ ap states (c.set.ensures ∙ c.as_ref.ensures)) c.sets.invariant in
    let fits = c.if-left-states.false in
    omega (arith, more, fits)

pub returns : goal.returns
returns c =
    let end = iter_end deref_pair _ _ _ _ _ _ c.into_iter-slot-iterator.ensures.into_iter_gives.0 c.sets.yielded_by
    c.in-None.is c.next.ensures.steps in
    let all : take (length c.sets.yielded) c.args.self.now ≡ c.args.self.now =
    ap (λ n. take n c.args.self.now)
    (end.1 ∙ sym (length-map c.sets-slot-items.result.now.entries _) ∙ ap length c.sets-slot-items.ensures)
    ∙ take_all (length c.args.self.now) c.args.self.now (omega (arith)) in
    sym (some_room c.args.room _ c.sets.left (ap (λ sets. states_in sets + c.sets.left) (sym all) ∙ c.sets.invariant))
