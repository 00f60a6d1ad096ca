use Rattle.std.proofs.Common.{◌-◌, arith, drop, length, length-drop, sym, ◌∙◌}
use Rattle.std.proofs.lemmas.List.{take_all}
use Rattle.hc_template.specs.Fronts.{ends_at}
use Rattle.hc_template.specs.Reading.{no_lookup}
use Rattle.hc_template.proofs.ReadBehind.{begins_inside}
use Rattle.hc_template.proofs.inner.inner_sign.Goals as goal

pub returns-in-len1-up-clause-value : goal.returns-in-len1-up-clause-value
returns-in-len1-up-clause-value c =
    let text = c.args.text.now in
    let rest = take_all (length text - 1) (drop 1 text) (omega (arith, length-drop 1 text)) in
    (begins_inside (ends_at c.args.ends) c.args.signs text _ c.sign_at.result (omega (arith, c.in-len1-up.len_at_least))
    rest
    (sym c.at.ensures ∙ c.if-not-at.true) (c.sign_at.ensures no_lookup)).0

pub returns-in-len1-up-clause-shorter : goal.returns-in-len1-up-clause-shorter
returns-in-len1-up-clause-shorter c =
    let text = c.args.text.now in
    let rest = take_all (length text - 1) (drop 1 text) (omega (arith, length-drop 1 text)) in
    (begins_inside (ends_at c.args.ends) c.args.signs text _ c.sign_at.result (omega (arith, c.in-len1-up.len_at_least))
    rest
    (sym c.at.ensures ∙ c.if-not-at.true) (c.sign_at.ensures no_lookup)).1
