use Rattle.hc_dfa.proofs.Common.{◌+◌, ◌∙◌, arith, refl, subst, sym, take, Goes, HasStep}
use Rattle.std.proofs.lemmas.List.{take_all}
use Rattle.std.proofs.lemmas.List.Elements.{Contains-get_or}
use Rattle.hc_dfa.proofs.Closures.{gathers_more, gathers_same, gathers_states, row_steps, steps_more, steps_past}
use Rattle.hc_dfa.proofs.subsets.go.Goals as goal
use Rattle.hc_dfa.proofs.subsets.go.Goals.{then-reads+in_ok-add, else-reads}

pub add-requires : goal.add-requires
add-requires c =
    let row = c.as_slice-row.result.now in
    let goes = (row_steps c.args.machine.now c.args.state c.index.result.now row c.requires.state c.index.ensures
    c.as_slice-row.ensures.value c.args.byte _).0 (
      _,
      Contains-get_or row c.loop-step.step-index _ c.loop-step-test.true,
      (c.reads.ensures.0 c.if-reads.true, refl),
    ) in
    let to = c.requires.machine.within c.args.state c.args.byte _ goes in
    let places = c.loop-step.invariant.places in
    omega arith

pub loop-step-preserved : goal.loop-step-preserved
loop-step-preserved c =
    let m = c.args.machine.now in
    let row = c.as_slice-row.result.now in
    let i = c.loop-step.step-index in
    let before = c.loop-step.invariant in
    elim c.if-reads.branch [
      | then-reads+in_ok-add w ↦
          let goes = (row_steps m c.args.state c.index.result.now row c.requires.state c.index.ensures
          c.as_slice-row.ensures.value c.args.byte _).0
          (_, Contains-get_or row i _ c.loop-step-test.true, (c.reads.ensures.0 w.if-reads.true, refl)) in
          rw (w.places-is, w.set-is) (record {
            places = w.add.ensures.places ∙ before.places;
            states = gathers_states m _ _ _ before.states (c.requires.machine.within c.args.state c.args.byte _ goes)
                w.in_ok-add.ensures.set;
            set = gathers_more (HasStep (take i row) c.args.byte) (HasStep (take (i + 1) row) c.args.byte)
                (Goes m c.args.state c.args.byte) _ _ _ _ before.set w.in_ok-add.ensures.set
                (λ x e. subst (Goes m c.args.state c.args.byte) (sym e) goes)
                (λ x has. steps_more row i _ c.args.byte x c.loop-step-test.true has);
          })
      | else-reads w ↦
          rw (w.places-is, w.set-is) (record {
            places = before.places;
            states = before.states;
            set = gathers_same (HasStep (take i row) c.args.byte) (HasStep (take (i + 1) row) c.args.byte)
                (Goes m c.args.state c.args.byte) _ _ before.set
                (λ x has. steps_past row i _ c.args.byte x c.loop-step-test.true
                (λ reads. let yes = c.reads.ensures.1 reads in let no = w.if-reads.false in cc) has);
          })
    ]

pub returns-clause-set : goal.returns-clause-set
returns-clause-set c =
    let m = c.args.machine.now in
    let row = c.as_slice-row.result.now in
    let i = c.loop-step.step-index in
    gathers_same (HasStep (take i row) c.args.byte) (Goes m c.args.state c.args.byte)
    (Goes m c.args.state c.args.byte) _ _ c.loop-step.invariant.set
    (λ x goes. rw (take_all i row c.loop-step-test.false)
    ((row_steps m c.args.state c.index.result.now row c.requires.state c.index.ensures c.as_slice-row.ensures.value
    c.args.byte x).1 goes))
