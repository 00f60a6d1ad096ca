use Rattle.hc_dfa.proofs.Common.{◌≡◌, sym, ◌∙◌, arith}
use Rattle.hc_dfa.proofs.Following.{met_keys, no_steps, same_extends, steps_more, steps_same}
use Rattle.hc_dfa.proofs.graphs.steps_of.Goals as goal

pub loop-choice-init : goal.loop-choice-init
loop-choice-init g c = record {
  proper = c.requires.proper;
  extends = same_extends c.args.keys.now.keys;
  steps = rw c.new-steps.ensures.items (no_steps (g.G.Graph.graph c.args.graph.now) c.args.keys.now.keys c.args.key);
}

pub loop-choice-preserved-in_default : goal.loop-choice-preserved-in_default
loop-choice-preserved-in_default g c = record {
  proper = c.loop-choice.invariant.proper;
  extends = c.loop-choice.invariant.extends;
  steps = rw (← c.choice_at.ensures.value)
      (steps_same (g.G.Graph.graph c.args.graph.now) _ c.args.key c.choice_at.result _
      (rw c.choice_at.ensures.value c.loop-choice.invariant.steps) c.choice_at.ensures.choice
      (sym c.step.ensures.value ∙ c.in_default.is));
}

pub loop-choice-preserved : goal.loop-choice-preserved
loop-choice-preserved g c =
    let met = c.in_ok-near.ensures in
    record {
      proper = met_keys (g.G.Graph.is_key c.args.graph.now) _ _ c.in-Some.step.to c.in_ok-near.near
          c.loop-choice.invariant.proper met c.in-Some.ensures.to;
      extends = λ i key at. met.extends i key (c.loop-choice.invariant.extends i key at);
      steps = rw (← c.choice_at.ensures.value)
          (steps_more (g.G.Graph.graph c.args.graph.now) _ _ c.args.key c.choice_at.result c.in-Some.step _ _
          c.in_ok-near.near (rw c.choice_at.ensures.value c.loop-choice.invariant.steps) c.choice_at.ensures.choice
          (sym c.step.ensures.value ∙ c.in-Some.is) met c.in_ok-add_step.ensures);
    }

pub returns-clause-steps : goal.returns-clause-steps
returns-clause-steps g c =
    let whole : c.loop-choice.choice ≡ 258 =
    (let ended = c.loop-choice-test.false in let within = c.loop-choice.auto.choice-end in omega arith) in
    rw whole at c.loop-choice.invariant.steps
