use Rattle.std.proofs.Common.{◌≡◌, ◌+◌, ap, sym, subst, rules, ◌∙◌}
use Rattle.hc_cache.specs.Entries.{Cached, stored}
use Rattle.hc_model.specs.declared.request.Request.{Request}
use Rattle.hc_serve.specs.declared.answer.Answer.{Answer}
use Rattle.hc_session.proofs.Asks.{kept_as}
use Rattle.hc_session.proofs.Standing.{all_stored}
use Rattle.hc_session.specs.Session.{State, evaluated, kept_answer, same_request}
use Rattle.hc_session.specs.Sound.{IsAnswerOf, IsSound}
use Rattle.hc_session.proofs.session.Session.keep.Goals as goal

pub invariant_of-self-2 : goal.invariant_of-self-2
invariant_of-self-2 c =
    let inside = c.self.inside in
    let at : c.edits.result ≡ inside.world.edits = search rules in
    let kept = kept_as c.store.new.self inside.answers.limit inside.world c.args.request c.args.answer _ _
    inside.answers.entries c.in_ok-store.ensures.ok c.in_ok-reads.ensures at in
    let present = subst (λ (state : State). IsAnswerOf state.world state.main c.args.request c.args.answer)
    (sym c.self.view_is) c.requires.present in
    subst (λ (cached : Cached Request Answer). IsSound inside.world inside.main cached.entries inside.site
    cached.limit) (sym kept) (record {
      limit = c.self.invariant.limit;
      answers = all_stored inside.world inside.main c.args.request c.args.answer inside.answers.limit
          inside.answers.entries present c.self.invariant.answers;
      site = c.self.invariant.site;
    })

pub returns-clause-ok : goal.returns-clause-ok
returns-clause-ok c =
    let inside = c.self.inside in
    let at : c.edits.result ≡ inside.world.edits = search rules in
    let kept = kept_as c.store.new.self inside.answers.limit inside.world c.args.request c.args.answer _ _
    inside.answers.entries c.in_ok-store.ensures.ok c.in_ok-reads.ensures at in
    let limited =
    ap (λ limit. stored same_request limit (kept_answer inside.world c.args.request c.args.answer)
    inside.answers.entries) c.self.invariant.limit in
    (λ i. record {
      limit = inside.limit;
      world = inside.world;
      main = inside.main;
      kept = ((ap (λ (cached : Cached Request Answer). cached.entries) kept ∙ limited) i);
      asks = inside.asks + 1;
      evaluations = inside.evaluations + 1;
      ended = inside.ended;
    })
    ∙ ap (λ (state : State). evaluated state c.args.request c.args.answer) c.self.view_is
