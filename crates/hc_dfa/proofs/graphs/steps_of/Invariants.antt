use Rattle.hc_dfa.proofs.Common.{Extends}
use Rattle.hc_dfa.specs.Graphs.{AreKeys, AreSteps}
use Rattle.hc_dfa.proofs.graphs.steps_of.Given as goal

abbrev pub invariant-loop-choice : goal.invariant-loop-choice
invariant-loop-choice g l = record {
  proper : AreKeys (g.G.Graph.is_key l.graph) l.keys.keys;
  extends : Extends l.initial.keys.keys l.keys.keys;
  steps : AreSteps (g.G.Graph.graph l.graph) l.keys.keys l.key l.choice l.steps.items;
}
