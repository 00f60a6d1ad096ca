use Rattle.std.proofs.Common.{◌≡◌, Some, ap, sym, subst, ◌∙◌}
use Rattle.std.specs.Prelude.{is_some, option_map}
use Rattle.hc_cache.specs.Entries.{value_of}
use Rattle.hc_session.proofs.Standing.{is_present}
use Rattle.hc_session.specs.Session.{Says, State, answer_reply, kept_turn, same_request}
use Rattle.hc_session.proofs.session.Session.kept.Goals as goal

pub returns-in_ok-answered-in-Some : goal.returns-in_ok-answered-in-Some
returns-in_ok-answered-in-Some c =
    let world = c.self.inside.world in
    let kept = c.self.inside.answers.entries in
    let found : value_of same_request world c.args.request.now kept ≡ Some c.in-Some.answer.now =
    sym c.find_valid.ensures ∙ ap (option_map (λ value. value.now)) c.in-Some.is in
    let present = is_present world c.self.inside.main c.args.request.now c.in-Some.answer.now kept
    c.self.invariant.answers found in
    subst (λ (state : State). kept_turn state c.args.request.now c.args.trail (Some c.in_ok-answered-in-Some.field-0))
    c.self.view_is (
      ap is_some found,
      present.0,
      present.1,
      subst (λ answer. Says (answer_reply c.args.trail world.files answer) c.in_ok-answered-in-Some.field-0) present.2
          c.in_ok-answered-in-Some.ensures,
    )
