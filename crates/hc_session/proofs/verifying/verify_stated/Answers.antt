use Rattle.std.proofs.Common.{sym, ◌∙◌}
use Rattle.std.proofs.lemmas.Result.{IfOk-weaker}
use Rattle.hc_session.proofs.Claiming.{line_of, verifies_there}
use Rattle.hc_session.specs.Stating.{claim_in, sets_of_stating}
use Rattle.hc_session.proofs.verifying.verify_stated.Goals as goal

pub returns-then-branch-clause-says : goal.returns-then-branch-clause-says
returns-then-branch-clause-says g c =
    let scene = c.args.scene in
    let verifying = c.args.verifying in
    let stating = verifying.stating in
    let there = sym (line_of scene.world.now.files scene.lines.now (claim_in stating) (sets_of_stating stating)
    c.args.stated.now.claim c.requires.stated.claimed) ∙ sym c.in_ok-has_line.ensures ∙ c.if-branch.true in
    IfOk-weaker c.checked.result _ _
    (λ stepped. verifies_there scene verifying c.args.stated.now c.requires.stated c.args.cells.now _ stepped there
    c.requires.cells) c.checked.ensures.says
