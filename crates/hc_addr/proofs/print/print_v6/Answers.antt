use Rattle.std.proofs.Common.{◌∙◌, append_assoc}
use Rattle.std.proofs.lemmas.Result.{IfOk-weaker}
use Rattle.hc_addr.proofs.print.print_v6.Goals as goal

pub returns : goal.returns
returns c =
    let f = c.in_ok-front.ensures in
    let b = c.in_ok-back.ensures in
    IfOk-weaker c.format.result _ _ (λ t e. e ∙ (rw (f, b, c.write_digits.ensures) (simp append_assoc)))
    c.format.ensures.ok
