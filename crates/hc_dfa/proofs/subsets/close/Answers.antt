use Rattle.hc_dfa.proofs.Common.{◌≡◌, ◌∙◌, Some, None, slice_get, get_or_from_slice_get, slice_get_within}
use Rattle.hc_dfa.proofs.Common.{sym}
use Rattle.hc_dfa.proofs.Closures.{closing_done, closing_more}
use Rattle.hc_dfa.proofs.Cells.{keys_ended}
use Rattle.hc_dfa.proofs.subsets.close.Goals as goal

pub returns-in_default-clause-closure : goal.returns-in_default-clause-closure
returns-in_default-clause-closure c =
    let none : slice_get c.loop-place.closure.items c.loop-place.place ≡ None =
    rw c.deref.ensures.value at (sym c.state_at.ensures ∙ c.in_default.is) in
    closing_done c.args.machine.now _ c.loop-place.closure.items _ c.loop-place.place c.loop-place.invariant.closure
    (keys_ended _ _ none) c.in_ok-sort.ensures.permutation

pub go-requires-clause-state : goal.go-requires-clause-state
go-requires-clause-state c =
    let at : slice_get c.loop-place.closure.items c.loop-place.place ≡ Some c.in-Some.state =
    rw c.deref.ensures.value at (sym c.state_at.ensures ∙ c.in-Some.is) in
    rw (← get_or_from_slice_get c.loop-place.closure.items c.loop-place.place c.in-Some.state 0 at)
    (c.loop-place.invariant.states c.loop-place.place 0 (slice_get_within _ _ _ at))

pub loop-place-preserved : goal.loop-place-preserved
loop-place-preserved c =
    let at : slice_get c.loop-place.closure.items c.loop-place.place ≡ Some c.in-Some.state =
    rw c.deref.ensures.value at (sym c.state_at.ensures ∙ c.in-Some.is) in
    record {
      places = c.go.ensures.places ∙ c.loop-place.invariant.places;
      states = c.in_ok-go.ensures.states;
      closure = closing_more c.args.machine.now _ c.loop-place.closure.items _ c.loop-place.place c.in-Some.state
          c.loop-place.invariant.closure at c.in_ok-go.ensures.set;
    }
