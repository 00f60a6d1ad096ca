use Rattle.std.proofs.Common.{Option, subst, sym, ◌∙◌}
use Rattle.hc_kept.specs.declared.site.Site.{Site}
use Rattle.hc_session.specs.Session.{State}
use Rattle.hc_session.specs.Sound.{IsSite, IsSound}
use Rattle.hc_session.proofs.session.Session.check.Goals as goal

pub invariant_of-self : goal.invariant_of-self
invariant_of-self g c =
    let inside = c.self.inside in
    subst (λ (read : Option Site). IsSound inside.world inside.main inside.answers.entries read inside.answers.limit)
    (sym c.put_back.ensures) (record {
      limit = c.self.invariant.limit;
      answers = c.self.invariant.answers;
      site = subst (λ (state : State). IsSite state.world state.main c.in_ok-site.site)
          (sym (c.self.view_is ∙ c.take_site.ensures.same)) c.in_ok-site.ensures.site;
    })
