use Rattle.hc_dfa.proofs.Common.{◌+◌, ◌∙◌, arith, inl, inr, take, slice_index, Some, Goes, LeadsTo}
use Rattle.std.proofs.lemmas.List.{take_all}
use Rattle.std.proofs.lemmas.List.Elements.{Contains-get_or}
use Rattle.hc_dfa.proofs.Closures.{gathers_more, leads_more}
use Rattle.hc_dfa.proofs.subsets.read.Goals as goal

pub loop-state-preserved : goal.loop-state-preserved
loop-state-preserved c =
    let m = c.args.machine.now in
    let set = c.args.set.now in
    let i = c.loop-state.state-index in
    record {
      places = c.go.ensures.places ∙ c.loop-state.invariant.places;
      states = c.in_ok-go.ensures.states;
      found = gathers_more (LeadsTo m (take i set) (Some c.args.byte)) (LeadsTo m (take (i + 1) set) (Some c.args.byte))
          (LeadsTo m set (Some c.args.byte)) (Goes m (slice_index set i) (Some c.args.byte)) _ _ _
          c.loop-state.invariant.found c.in_ok-go.ensures.set
          (λ x goes. (slice_index set i, Contains-get_or set i 0 c.loop-state-test.true, goes))
          (λ x leads. leads_more m set i (Some c.args.byte) x c.loop-state-test.true leads);
    }

pub returns-clause-read : goal.returns-clause-read
returns-clause-read c = λ x. (
  (λ has. elim (c.loop-state.invariant.found.sound x has)
      [ inl none ↦ absurd (let w = none.1 in omega arith) | inr leads ↦ leads ]),
  (λ leads. c.loop-state.invariant.found.complete x
      (rw (take_all c.loop-state.state-index c.args.set.now c.loop-state-test.false) leads)),
)
