use Rattle.std.proofs.Common.{Global, Vec}
use Rattle.std.proofs.lemmas.Result.{IfOk-weaker}
use Rattle.hc_dfa.specs.Automata.{accepts}
use Rattle.hc_sent.specs.Making.{AreDirected}
use Rattle.hc_sent.specs.declared.parts.Part.{Part}
use Rattle.hc_ends.proofs.sending.directed.Goals as goal

pub returns : goal.returns
returns c =
    IfOk-weaker c.redirect_parts.result
    (λ (parts : Vec Part Global). AreDirected c.args.caller.now c.args.redirect.now (accepts c.in_ok-paths.paths)
    (accepts c.in_ok-queries.queries) parts.items) _
    (λ parts are. record {
      texts = c.in_ok-paths.paths;
      holds = c.in_ok-paths.ensures;
      queries = c.in_ok-queries.queries;
      asks = c.in_ok-queries.ensures;
      are = are;
    }) c.redirect_parts.ensures
