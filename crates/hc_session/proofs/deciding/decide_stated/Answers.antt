use Rattle.std.proofs.Common.{sym, ◌∙◌}
use Rattle.std.proofs.lemmas.Result.{IfOk-weaker}
use Rattle.hc_session.proofs.Claiming.{line_of, says_there, tries_there}
use Rattle.hc_session.specs.Stating.{claim_in, sets_of_stating}
use Rattle.hc_session.proofs.deciding.decide_stated.Goals as goal

pub returns-then-branch-clause-says : goal.returns-then-branch-clause-says
returns-then-branch-clause-says g c =
    let scene = c.args.scene in
    let stating = c.args.stating in
    let there = sym (line_of scene.world.now.files scene.lines.now (claim_in stating) (sets_of_stating stating)
    c.args.stated.now.claim c.requires.stated.claimed) ∙ sym c.in_ok-has_line.ensures ∙ c.if-branch.true in
    IfOk-weaker c.answer.result _ _
    (λ stepped. says_there scene stating c.args.stated.now c.requires.stated stepped there) c.answer.ensures.says

pub returns-then-branch-clause-evals : goal.returns-then-branch-clause-evals
returns-then-branch-clause-evals g c =
    tries_there c.args.scene c.args.stating c.args.stated.now c.requires.stated c.args.evals.now c.answer.new.evals
    c.requires.sets c.answer.ensures.evals
