use Rattle.hc_dfa.proofs.Common.{◌≡◌, ◌∙◌, Some, ap, slice_get, slice_get-get_or, sym}
use Rattle.hc_dfa.proofs.Following.{follows_more}
use Rattle.hc_dfa.proofs.graphs.MovesWalk.follow.Goals as goal

pub returns : goal.returns
returns g c =
    let graph = c.args.self.now.graph.now in
    let at : slice_get c.args.keys.now.keys c.args.number ≡ Some c.index-as_slice-number.result =
    slice_get-get_or c.args.keys.now.keys c.args.number c.index-as_slice-number.result c.requires.number
    ∙ ap Some (sym (rw c.as_slice.ensures.keys at c.index-as_slice-number.is)) in
    follows_more (g.G.Graph.graph graph) (g.G.Graph.is_key graph) c.args.self.now.first c.args.keys.now.keys
    c.steps_of.new.keys.keys c.args.machine.now _ c.args.number c.index-as_slice-number.result
    c.in_ok-steps_of.field-0 c.is_final.result c.requires.before at c.in_ok-steps_of.ensures.proper
    c.in_ok-steps_of.ensures.extends c.in_ok-steps_of.ensures.steps c.is_final.ensures c.in_ok-push.ensures.items
    c.in_ok-push-2.ensures.items
