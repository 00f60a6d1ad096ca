use Rattle.std.proofs.Common.{◌+◌, ◌≤◌, OnOk, Some, None, ap, sym, subst, ◌∙◌}
use Rattle.hc_json.specs.CommandView.{question_view}
use Rattle.hc_session.proofs.Asks.{ask_kept, ask_new, read_for}
use Rattle.hc_session.specs.Session.{Gave, IsTurn, Turn, answer_of, answer_reply, kept_turn, new_bytes, new_turn}
use Rattle.hc_session.specs.Session.{present, served}
use Rattle.hc_session.proofs.session.Session.ask.Goals as goal

pub returns-in-Some-clause-turned : goal.returns-in-Some-clause-turned
returns-in-Some-clause-turned g c =
    let question = question_view c.args.asked.now in
    let kept = subst (λ request. kept_turn c.args.self.now request question.trail (Some c.in-Some.stepped))
    c.in_ok-request.ensures
    (subst (kept_turn c.args.self.now c.in_ok-request.request question.trail) c.in-Some.is c.in_ok-stepped.ensures) in
    let turn = ask_kept c.args.self.now question kept.1 kept.2 kept.0 in (
      answer_reply question.trail c.args.self.now.world.files
          (answer_of c.args.self.now.world.files kept.1 question.request),
      kept.3,
      (
        ap (λ (turn : Turn). turn.reply) (sym turn),
        ap served c.self.view_is ∙ ap (λ (turn : Turn). turn.state) (sym turn),
      ),
    )

pub returns-in-None-clause-turned : goal.returns-in-None-clause-turned
returns-in-None-clause-turned g c =
    let question = question_view c.args.asked.now in
    let new = subst (λ request. kept_turn c.args.self.now request question.trail None) c.in_ok-request.ensures
    (subst (kept_turn c.args.self.now c.in_ok-request.request question.trail) c.in-None.is c.in_ok-stepped.ensures) in
    let turned =
    subst (λ request. Gave c.ask_anew.result
    (IsTurn (new_turn c.args.self.now request question.trail (present c.args.self.now))) c.args.self.now
    c.ask_anew.new.self) c.in_ok-request.ensures c.ask_anew.ensures.turned in
    subst (λ turn. Gave c.ask_anew.result (IsTurn turn) c.args.self.now c.ask_anew.new.self)
    (sym (ask_new c.args.self.now question new)) turned

pub returns-in-None-clause-bytes : goal.returns-in-None-clause-bytes
returns-in-None-clause-bytes g c =
    let question = question_view c.args.asked.now in
    let new = subst (λ request. kept_turn c.args.self.now request question.trail None) c.in_ok-request.ensures
    (subst (kept_turn c.args.self.now c.in_ok-request.request question.trail) c.in-None.is c.in_ok-stepped.ensures) in
    read_for c.ask_anew.result c.args.self.now question.request _ _ new
    (subst (λ request. OnOk c.ask_anew.result
    (c.ask_anew.new.bytes ≤ c.args.bytes.now + new_bytes c.args.self.now request)) c.in_ok-request.ensures
    c.ask_anew.ensures.bytes)
