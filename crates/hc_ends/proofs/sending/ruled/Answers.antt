use Rattle.std.proofs.Common.{◌∙◌, Global, Vec, subst}
use Rattle.std.proofs.lemmas.Result.{IfOk-weaker}
use Rattle.hc_dfa.specs.Automata.{accepts}
use Rattle.hc_sent.specs.Making.{AreRuled}
use Rattle.hc_sent.specs.declared.parts.Part.{Part}
use Rattle.hc_ends.proofs.sending.ruled.Goals as goal

pub returns : goal.returns
returns c =
    IfOk-weaker c.ruled_parts.result
    (λ (parts : Vec Part Global). AreRuled c.deref.result.now c.args.noescape (accepts c.in_ok-locations.locations)
    (accepts c.in_ok-queries.queries) parts.items) _
    (λ parts are. record {
      texts = c.in_ok-locations.locations;
      holds = c.in_ok-locations.ensures;
      queries = c.in_ok-queries.queries;
      asks = c.in_ok-queries.ensures;
      are = subst (λ front. AreRuled front c.args.noescape (accepts c.in_ok-locations.locations)
          (accepts c.in_ok-queries.queries) parts.items) (c.deref.ensures.value ∙ c.in_ok-front.ensures) are;
    }) c.ruled_parts.ensures
