use Rattle.std.proofs.Common.{◌≡◌, ◌∙◌, ap, sym, subst}
use Rattle.hc_kept.specs.Files.{AreFilesOf}
use Rattle.hc_session.proofs.Chained.{asked_anew}
use Rattle.hc_session.specs.Asking.{answer_of}
use Rattle.hc_session.specs.Sound.{IsKeptAnswer}
use Rattle.hc_session.specs.State.{State}
use Rattle.hc_session.proofs.session.Session.serve.Goals as goal

pub answer-requires-clause-files : goal.answer-requires-clause-files
answer-requires-clause-files g c =
    subst (λ (state : State). AreFilesOf state.world c.args.config.now c.args.files.now) (sym c.self.view_is)
    c.requires.files

pub returns-in_err-answer-in-None-clause-files : goal.returns-in_err-answer-in-None-clause-files
returns-in_err-answer-in-None-clause-files g c =
    subst (λ (state : State). AreFilesOf state.world c.args.config.now c.answer.new.files) c.self.view_is
    c.answer.ensures.files

pub returns-in_err-copy-in-None-clause-files : goal.returns-in_err-copy-in-None-clause-files
returns-in_err-copy-in-None-clause-files g c =
    subst (λ (state : State). AreFilesOf state.world c.args.config.now c.answer.new.files) c.self.view_is
    c.answer.ensures.files

pub returns-in_err-clone-in-None-clause-files : goal.returns-in_err-clone-in-None-clause-files
returns-in_err-clone-in-None-clause-files g c =
    subst (λ (state : State). AreFilesOf state.world c.args.config.now c.answer.new.files) c.self.view_is
    c.answer.ensures.files

pub returns-in_err-keep-in-None-clause-files : goal.returns-in_err-keep-in-None-clause-files
returns-in_err-keep-in-None-clause-files g c =
    subst (λ (state : State). AreFilesOf state.world c.args.config.now c.answer.new.files) c.self.view_is
    c.answer.ensures.files

pub returns-in_ok-keep-in-None-clause-files : goal.returns-in_ok-keep-in-None-clause-files
returns-in_ok-keep-in-None-clause-files g c =
    subst (λ (state : State). AreFilesOf state.world c.args.config.now c.answer.new.files) c.self.view_is
    c.answer.ensures.files

pub keep-requires-clause-present : goal.keep-requires-clause-present
keep-requires-clause-present g c =
    let config = c.args.config.now in
    let answered = c.in_ok-answer-in-None.ensures.answer
    ∙ ap (λ (state : State). answer_of state.world.files config c.args.request.now) c.self.view_is in (
      config,
      c.requires.config,
      c.in_ok-copy-in-None.ensures.cases ∙ answered
          ∙ ap (answer_of c.args.self.now.world.files config) (sym c.in_ok-clone-in-None.ensures.cases),
    )

pub returns-in_ok-keep-in-None-clause-answer : goal.returns-in_ok-keep-in-None-clause-answer
returns-in_ok-keep-in-None-clause-answer g c =
    c.in_ok-answer-in-None.ensures.answer
    ∙ ap (λ (state : State). answer_of state.world.files c.args.config.now c.args.request.now) c.self.view_is

pub returns-in_ok-keep-in-None-clause-asked : goal.returns-in_ok-keep-in-None-clause-asked
returns-in_ok-keep-in-None-clause-asked g c =
    let state = c.args.self.now in
    let request = c.args.request.now in
    let answer = answer_of state.world.files c.args.config.now request in
    let made : c.in_ok-answer-in-None.answer ≡ answer = c.in_ok-answer-in-None.ensures.answer
    ∙ ap (λ (state : State). answer_of state.world.files c.args.config.now request) c.self.view_is in
    let isnt = subst (IsKeptAnswer state request) c.in-None.is c.in_ok-answer.ensures in
    asked_anew state c.keep.new.self request c.in_ok-clone-in-None.field-0 answer c.in_ok-copy-in-None.copy isnt
    c.in_ok-clone-in-None.ensures.cases (c.in_ok-copy-in-None.ensures.cases ∙ made) c.in_ok-keep-in-None.ensures.ok
