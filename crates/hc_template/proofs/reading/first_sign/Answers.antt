use Rattle.std.proofs.Common.{◌-◌, arith, drop, length, length-drop}
use Rattle.std.proofs.lemmas.List.{take_all}
use Rattle.hc_template.specs.Reading.{lookup_sign}
use Rattle.hc_template.proofs.ReadBehind.{begins}
use Rattle.hc_template.proofs.reading.first_sign.Goals as goal

pub returns-in-len1-up : goal.returns-in-len1-up
returns-in-len1-up c =
    let text = c.args.text.now in
    let rest = take_all (length text - 1) (drop 1 text) (omega (arith, length-drop 1 text)) in
    begins c.args.signs text _ c.sign_at.result (omega (arith, c.in-len1-up.len_at_least)) rest
    (c.sign_at.ensures (lookup_sign c.args.signs))
