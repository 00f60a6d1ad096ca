use Rattle.std.proofs.Common.{◌≡◌, ◌∙◌, ap, sym}
use Rattle.std.proofs.lemmas.Result.{IfOk-weaker}
use Rattle.hc_plan.specs.Hands.{cell_of}
use Rattle.hc_cert.specs.Coded.{before_pass, met_by}
use Rattle.hc_cert.proofs.ready.met_by.Goals as goal

pub returns-in-Pass : goal.returns-in-Pass
returns-in-Pass c =
    let cell = cell_of c.args.cell in
    IfOk-weaker c.before_pass.result (λ made. cell_of made ≡ before_pass cell) _
    (λ made is. is ∙ ap (λ at. met_by at cell) (sym c.in-Pass.is)) c.before_pass.ensures
