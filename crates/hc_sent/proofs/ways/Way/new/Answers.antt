use Rattle.hc_sent.proofs.Leaving.{paths_accept, queries_accept}
use Rattle.hc_sent.proofs.ways.Way.new.Goals as goal

pub returns : goal.returns
returns c parts before leads =
    let origin = c.args.origin.now in
    record {
      texts = leads;
      asked = c.in_ok-behind.ensures;
      asking = c.in_ok-behind-2.ensures;
      paths = paths_accept parts before origin c.args.texts c.in_ok-left.left leads c.in_ok-left.ensures
          c.in_ok-fronts.fronts _ c.in_ok-fronts.ensures c.in_ok-slashed.ensures;
      queries = queries_accept parts before origin c.args.texts c.in_ok-left.left leads c.in_ok-left.ensures _
          c.in_ok-after_question.ensures;
    }
