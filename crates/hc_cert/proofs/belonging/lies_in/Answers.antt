use Rattle.std.proofs.Common.{◌∙◌, sym}
use Rattle.std.proofs.lemmas.Result.{IfOk-weaker}
use Rattle.hc_plan.specs.Hands.{cell_of}
use Rattle.hc_abs_view.specs.Seen.{IsAnswer}
use Rattle.hc_cert.proofs.Lying.{lies_answer}
use Rattle.hc_cert.specs.Cells.{IsWithin}
use Rattle.hc_cert.proofs.belonging.lies_in.Goals as goal

pub returns-then-same_cut : goal.returns-then-same_cut
returns-then-same_cut c =
    let states = cell_of c.args.states.now in
    let own = c.args.own.now.named.now in
    IfOk-weaker c.is_within.result (IsAnswer (IsWithin states own)) _
    (λ is answer. lies_answer states c.args.at.now own is (sym c.same_cut.ensures ∙ c.if-same_cut.true) answer)
    c.is_within.ensures
