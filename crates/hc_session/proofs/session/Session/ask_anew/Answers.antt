use Rattle.std.proofs.Common.{◌≡◌, Ok, ap, sym, subst, ◌∙◌}
use Rattle.hc_session.proofs.Asks.{counted, read_anew, turn_found}
use Rattle.hc_session.specs.Session.{Gave, IsTurn, State, answer_of, evaluated_turn, present}
use Rattle.hc_session.specs.Sound.{Evaluates, IsFound}
use Rattle.hc_session.proofs.session.Session.ask_anew.Goals as goal

pub reply_and_keep-requires-clause-present : goal.reply_and_keep-requires-clause-present
reply_and_keep-requires-clause-present g c =
    let found = subst (IsFound c.self.inside.world.files c.in_ok-site.site.built c.args.request) c.in-Ok.is
    c.in_ok-answer.ensures.found in
    let built = sym c.in_ok-site.ensures.built ∙ found.1 in (
      found.0,
      subst (λ (state : State). present state ≡ Ok found.0) (sym (c.self.view_is ∙ c.take_site.ensures.same))
          built,
      found.2,
    )

pub returns-in-Ok-clause-turned : goal.returns-in-Ok-clause-turned
returns-in-Ok-clause-turned g c =
    let found = subst (IsFound c.self.inside.world.files c.in_ok-site.site.built c.args.request) c.in-Ok.is
    c.in_ok-answer.ensures.found in
    let built = sym c.in_ok-site.ensures.built ∙ found.1 in
    let here = c.self.view_is ∙ c.take_site.ensures.same in
    let answered = subst (λ (state : State). c.in-Ok.answer ≡ answer_of state.world.files found.0 c.args.request)
    here found.2 in
    let turned =
    subst (λ state. Gave c.reply_and_keep.result
    (IsTurn (evaluated_turn state c.args.request c.args.trail c.in-Ok.answer)) state c.reply_and_keep.new.self) here
    c.reply_and_keep.ensures in
    subst (λ turn. Gave c.reply_and_keep.result (IsTurn turn) c.args.self.now c.reply_and_keep.new.self)
    (turn_found c.args.self.now c.args.request c.args.trail found.0 c.in-Ok.answer built answered) turned

pub returns-in-Ok-clause-evals : goal.returns-in-Ok-clause-evals
returns-in-Ok-clause-evals g c =
    let turned =
    subst (λ state. Gave c.reply_and_keep.result
    (IsTurn (evaluated_turn state c.args.request c.args.trail c.in-Ok.answer)) state c.reply_and_keep.new.self)
    (c.self.view_is ∙ c.take_site.ensures.same) c.reply_and_keep.ensures in
    counted c.reply_and_keep.result c.args.self.now c.reply_and_keep.new.self c.args.request c.args.trail c.in-Ok.answer _ _ turned
    (subst (λ found. Evaluates (Ok found) c.args.evals.now c.find_answer-found.new.evals) c.in-Ok.is
    c.in_ok-answer.ensures.evals)

pub returns-in-Ok-clause-bytes : goal.returns-in-Ok-clause-bytes
returns-in-Ok-clause-bytes g c =
    read_anew c.reply_and_keep.result c.args.self.now _ _ c.args.request _ _ _
    (ap (λ (state : State). state.world.files) (c.self.view_is ∙ c.take_site.ensures.same))
    c.in_ok-site.ensures.built c.in_ok-site.ensures.bytes
    c.in_ok-answer.ensures.bytes

pub returns-in-Err-clause-bytes : goal.returns-in-Err-clause-bytes
returns-in-Err-clause-bytes g c =
    read_anew c.refusing.result c.args.self.now _ _ c.args.request _ _ _
    (ap (λ (state : State). state.world.files) (c.self.view_is ∙ c.take_site.ensures.same))
    c.in_ok-site.ensures.built c.in_ok-site.ensures.bytes
    c.in_ok-answer.ensures.bytes
