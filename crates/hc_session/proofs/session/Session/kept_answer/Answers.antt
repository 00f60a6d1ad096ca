use Rattle.std.proofs.Common.{◌≡◌, Some, ap, sym, subst, ◌∙◌}
use Rattle.std.specs.Prelude.{is_some, option_map}
use Rattle.hc_cache.specs.Entries.{value_of}
use Rattle.hc_session.proofs.Standing.{is_present}
use Rattle.hc_session.specs.Session.{State, same_request}
use Rattle.hc_session.specs.Sound.{IsAnswerOf, IsKeptAnswer}
use Rattle.hc_session.proofs.session.Session.kept_answer.Goals as goal

pub returns-in_ok-clone-in-Some : goal.returns-in_ok-clone-in-Some
returns-in_ok-clone-in-Some c =
    let world = c.self.inside.world in
    let kept = c.self.inside.answers.entries in
    let request = c.args.request.now in
    let found : value_of same_request world request kept ≡ Some c.in-Some.answer.now =
    sym c.find_valid.ensures ∙ ap (option_map (λ value. value.now)) c.in-Some.is in
    let present = is_present world c.self.inside.main request c.in-Some.answer.now kept
    c.self.invariant.answers found in
    subst (λ (state : State). IsKeptAnswer state request (Some c.in_ok-clone-in-Some.field-0)) c.self.view_is
    (ap is_some found, subst (IsAnswerOf world c.self.inside.main request) (sym c.in_ok-clone-in-Some.ensures.cases) present)
